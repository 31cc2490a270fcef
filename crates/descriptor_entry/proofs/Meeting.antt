-- What reading answers where the bytes of pieces stand, by their fault: a value and the place behind them, or a refusal of that number. Assumes nothing.
use Prim.Native.Nat.{ℕ, ◌+◌, ◌*◌, ◌^◌, ◌<◌}
use mathlib.Core.Path.{◌≡◌, refl, sym, ap, ap₂, ◌∙◌, subst}
use mathlib.Core.List.{List, [], ◌∷◌, ◌++◌, append-nil}
use mathlib.Core.Bool.{Bool, true, false}
use lib.ListN.{length, length-append}
use native.Mathlib.Omega.{arith}
use native.Mathlib.Nat.{add-zero}
use Rattle.algebra.specs.Numbers.{be, joined, At}
use Rattle.algebra.specs.Reader.{Res, ok, refuse, Reader, then, pick, field, rule, Judged, unless, judged, give, ◌>>=◌, done, number_of}
use Rattle.algebra.specs.Store.{part}
use Rattle.algebra.specs.Faults.{first_of, faults}
use Rattle.algebra.proofs.Laws.{field_in, body-in}
use Rattle.algebra.proofs.Places.{length-be, at_in, at_left, at_right, num-be}
use Rattle.algebra.proofs.Tells.{first-none, first_some, first-zero}
use Rattle.descriptor.specs.Reading.{passing, skip}
use Rattle.descriptor_entry.specs.Pieces.{Piece, number, run, bytes_of, fault_of, bytes, fault, Fit}
use Rattle.descriptor_entry.proofs.Laws.{faults-append, bytes-append, part-inside}

-- an answer by a fault's number x: the value a and the place `end`, or a refusal of that number
pub data Meets {A : Type 0} (m : Res A) (x end : ℕ) (a : A) : Type 0 where
  good : m ≡ ok a end → x ≡ 0 → Meets m x end a
  bad : (p r g : ℕ) → m ≡ refuse x p r g → 0 < x → Meets m x end a

pub meets-then : {A B : Type 0} {m : Res A} {x mid : ℕ} {a : A} → Meets m x mid a → (k : A → ℕ → Res B) {y end : ℕ} {b : B} → Meets (k a mid) y end b → Meets (then m k) (first_of x y) end b
meets-then {m = m} {x = x} (good e z) k {y} {end} {b} h =
    subst (λ (n : ℕ). Meets (then m k) n end b) (sym (first-none x y z)) (subst (λ (w : Res _). Meets (then w k) y end b) (sym e) h)
meets-then {m = m} {x = x} (bad p r g e h) k {y} {end} {b} u =
    bad p r g (ap (λ (w : Res _). then w k) e ∙ ap (λ (n : ℕ). refuse n p r g) (sym (first_some x y h))) (subst (λ (n : ℕ). 0 < n) (sym (first_some x y h)) h)

pub meets-number : {A : Type 0} {m : Res A} {x end : ℕ} {a : A} → Meets m x end a → number_of m ≡ x
meets-number (good e z) = ap number_of e ∙ sym z
meets-number (bad p r g e h) = ap number_of e

pub meets-ok : {A : Type 0} {m : Res A} {x end : ℕ} {a : A} → Meets m x end a → x ≡ 0 → m ≡ ok a end
meets-ok (good e z) h = e
meets-ok (bad p r g e h) z = absurd (omega arith)

meets-done : {A : Type 0} {m : Res A} {x end : ℕ} {a : A} → Meets m x end a → Meets (done m) x end tt
meets-done (good e z) = good (ap done e) z
meets-done (bad p r g e h) = bad p r g (ap done e) h

-- what the reader p gives where the bytes of pieces stand in s
pub record Reads (s text : List ℕ) {A : Type 0} (ps : List Piece) (p : Reader A) (a : A) : Type 0 where
  pub meets : (at : ℕ) → At s at (bytes text ps) → Meets (p s at) (fault text ps) (at + length (bytes text ps)) a

module _ (s text : List ℕ) where
  pub reads_then : {A B : Type 0} {ps qs : List Piece} {m : Reader A} {a : A} {b : B} → Reads s text ps m a → (k : A → Reader B) → Reads s text qs (k a) b → Reads s text (ps ++ qs) (m >>= k) b
  reads_then {ps = ps} {qs = qs} {m = m} {a = a} {b = b} x k y = record {
    meets = λ at h.
        let g : At s at (bytes text ps ++ bytes text qs) = subst (λ (l : List ℕ). At s at l) (bytes-append text ps qs) h in
        let e : at + length (bytes text ps) + length (bytes text qs) ≡ at + length (bytes text (ps ++ qs)) = omega (arith, length-append (bytes text ps) (bytes text qs), ap length (bytes-append text ps qs)) in
        subst (λ (n : ℕ). Meets (then (m s at) (λ c q. k c s q)) n (at + length (bytes text (ps ++ qs))) b) (sym (faults-append (fault_of text) ps qs))
        (subst (λ (n : ℕ). Meets (then (m s at) (λ c q. k c s q)) (first_of (fault text ps) (fault text qs)) n b) e
        (meets-then (x.meets at (at_left s at (bytes text ps) (bytes text qs) g)) (λ c q. k c s q) (y.meets (at + length (bytes text ps)) (at_right s at (bytes text ps) (bytes text qs) g))));
  }

  pub reads-give : {A : Type 0} (a : A) → Reads s text [] (give a) a
  unfolding faults joined
  reads-give a = record { meets = λ at h. good (ap (λ (n : ℕ). ok a n) (sym (add-zero at))) refl }

  pub reads-passing : {A : Type 0} {ps : List Piece} {p : Reader A} {a : A} → Reads s text ps p a → Reads s text ps (passing p) tt
  reads-passing x = record { meets = λ at h. meets-done (x.meets at h) }

  -- one piece
  module _ {A : Type 0} (q : Piece) (p : Reader A) (a : A) where
    pub reads-one : ((at : ℕ) → At s at (bytes_of text q) → Meets (p s at) (fault_of text q) (at + length (bytes_of text q)) a) → Reads s text (q ∷ []) p a
    unfolding faults joined
    reads-one h = record {
      meets = λ at g.
          let e : bytes_of text q ++ [] ≡ bytes_of text q = append-nil (bytes_of text q) in
          subst (λ (n : ℕ). Meets (p s at) n (at + length (bytes_of text q ++ [])) a) (sym (first-zero (fault_of text q)))
          (subst (λ (l : List ℕ). Meets (p s at) (fault_of text q) (at + length l) a) (sym e) (h at (subst (λ (l : List ℕ). At s at l) e g)));
    }

  pub reads-judged : (w v : ℕ) (j : ℕ → Judged) (b : Bool) (x : ℕ) → v < 256 ^ w → j v ≡ unless b x → 0 < x → Reads s text (number w v (pick b 0 x) ∷ []) (judged w j) v
  reads-judged w v j b x small e pos = reads-one (number w v (pick b 0 x)) (judged w j) v (λ at h.
      let l : length (be w v) ≡ w = length-be w v in
      let i : field w s at ≡ ok v (at + w) = field_in w s at (omega (arith, at_in s at (be w v) h)) ∙ ap (λ (n : ℕ). ok n (at + w)) (num-be s w at v small h) in
      let z : at + w ≡ at + length (be w v) = omega arith in
      go b at (ap (λ (m : Res ℕ). then m (λ v n. rule (j v) at (ok v n))) i ∙ ap (λ (y : Judged). rule y at (ok v (at + w))) e) z)
    where
      go : (b : Bool) (at : ℕ) → judged w j s at ≡ rule (unless b x) at (ok v (at + w)) → at + w ≡ at + length (be w v) → Meets (judged w j s at) (pick b 0 x) (at + length (be w v)) v
      go true at e z = good (e ∙ ap (λ (n : ℕ). ok v n) z) refl
      go false at e z = bad at 0 0 e pos

  pub reads-field : (w v : ℕ) → v < 256 ^ w → Reads s text (number w v 0 ∷ []) (field w) v
  reads-field w v small = reads-one (number w v 0) (field w) v (λ at h.
      let l : length (be w v) ≡ w = length-be w v in
      let z : at + w ≡ at + length (be w v) = omega arith in
      good (field_in w s at (omega (arith, at_in s at (be w v) h)) ∙ ap₂ (λ (n k : ℕ). ok n k) (num-be s w at v small h) z) refl)

  -- a number that is passed over
  pub reads-skip : (w v : ℕ) → Reads s text (number w v 0 ∷ []) (skip w) tt
  reads-skip w v = reads-one (number w v 0) (skip w) tt (λ at h.
      let l : length (be w v) ≡ w = length-be w v in
      let z : at + w * 1 ≡ at + length (be w v) = omega arith in
      good (ap done (body-in 1 s at w (omega (arith, at_in s at (be w v) h))) ∙ ap (λ (n : ℕ). ok tt n) z) refl)

  pub reads-run : (first n : ℕ) → Fit text (run first n) → Reads s text (run first n ∷ []) (skip n) tt
  reads-run first n fit = reads-one (run first n) (skip n) tt (λ at h.
      let z : at + n * 1 ≡ at + length (part text first n) = omega (arith, fit) in
      good (ap done (body-in 1 s at n (omega (arith, fit, at_in s at (part text first n) h))) ∙ ap (λ (k : ℕ). ok tt k) z)
      (ap number_of (body-in 1 text first n (omega (arith, part-inside text first n fit)))))

  -- a number of four bytes, and what stands behind it
  pub record Begins (k x : ℕ) (ps : List Piece) (at : ℕ) : Type 0 where
    pub number_is : field 4 s at ≡ ok k (at + 4)
    pub behind : At s (at + 4) (bytes text ps)
    pub length-is : at + 4 + length (bytes text ps) ≡ at + length (bytes text (number 4 k x ∷ ps))

  pub begins : (k x : ℕ) (ps : List Piece) (at : ℕ) → k < 256 ^ 4 → At s at (bytes text (number 4 k x ∷ ps)) → Begins k x ps at
  unfolding joined
  begins k x ps at small stands =
      let l : length (be 4 k) ≡ 4 = length-be 4 k in
      let left = at_left s at (be 4 k) (bytes text ps) stands in
      let right = at_right s at (be 4 k) (bytes text ps) stands in record {
        number_is = field_in 4 s at (omega (arith, at_in s at (be 4 k) left)) ∙ ap (λ (n : ℕ). ok n (at + 4)) (num-be s 4 at k small left);
        behind = subst (λ (n : ℕ). At s (at + n) (bytes text ps)) l right;
        length-is = omega (arith, length-append (be 4 k) (bytes text ps));
      }
