-- Steps one after the other: where the code's answers lead, and readers of several fields that are exact. Assumes nothing.
use Prim.Native.Nat.{ℕ, ◌+◌, ◌^◌, ◌≤◌, ◌<◌}
use mathlib.Core.Path.{◌≡◌, refl, sym, ap, ap₂, ◌∙◌, subst}
use mathlib.Core.List.{List, ◌++◌}
use mathlib.Core.Bool.{Bool}
use lib.Dec.{eqb}
use lib.ListN.{length, length-append}
use borrow.Author.Tests.{eqb-true, eq-eqb}
use native.Mathlib.Omega.{arith}
use Rattle.algebra.specs.Numbers.{be, At, Bytes}
use Rattle.algebra.specs.Reader.{Res, ok, refuse, Reader, then, field, Judged, fine, unless, judged, ◌>>=◌}
use Rattle.algebra.specs.Algebra.{Exact}
use Rattle.algebra.proofs.Laws.{field_in}
use Rattle.algebra.proofs.Places.{length-be, at_in, at_next, at_left, at_right, num-be, be-num, num-lt}
use Rattle.algebra.proofs.Inverse.{then-inv, unless-fine, field-inv}
use Rattle.algebra.proofs.Exact.{judged-exact, same-exact, one-exact, bind-exact}

-- ---- the way that a step's answer leads

pub step-no : {A B : Type 0} (m : Res A) (k : A → ℕ → Res B) {x p r f : ℕ} → refuse x p r f ≡ m → refuse x p r f ≡ then m k
step-no m k e = ap (λ (n : Res _). then n k) e

pub step-on : {A B : Type 0} (m : Res A) (k : A → ℕ → Res B) {a : A} {q : ℕ} {z : Res B} → ok a q ≡ m → z ≡ k a q → z ≡ then m k
step-on m k e g = g ∙ ap (λ (n : Res _). then n k) e

-- ---- exact fields

module _ (s : List ℕ) (bytes : Bytes s) where
  pub field-exact : (w : ℕ) → Exact s (field w) (λ v. v) (λ v. v < 256 ^ w) (be w)
  field-exact w = record {
    reads = λ at v fit h.
        let l : length (be w v) ≡ w = length-be w v in
        let e : at + w ≡ at + length (be w v) = omega arith in
        (v, field_in w s at (omega (arith, at_in s at (be w v) h)) ∙ ap₂ (λ (x y : ℕ). ok x y) (num-be s w at v fit h) e, refl);
    writes = λ at le v q e.
        let i = field-inv w s at e in
        let l : length (be w v) ≡ w = length-be w v in
        (subst (λ (x : ℕ). x < 256 ^ w) i.1 (num-lt s bytes w at), subst (λ (x : ℕ). At s at (be w x)) i.1 (be-num s bytes w at (omega arith)), omega arith);
  }

  -- a field of which v alone is fine, and then more
  pub only-exact : {A B : Type 0} {m : Reader A} {view : A → B} {Ok : B → Type 0} {rest : B → List ℕ} (w v : ℕ) (j : ℕ → Judged) → v < 256 ^ w → j v ≡ fine → ((x : ℕ) → j x ≡ fine → x ≡ v) → Exact s m view Ok rest
      → Exact s (judged w j >>= (λ x. m)) view Ok (λ b. be w v ++ rest b)
  only-exact {A} {B} {m} {view} {Ok} {rest} w v j small good only more =
      same-exact
      (bind-exact {k = λ x. m} {OkD = Ok} {rest = rest} (λ b. tt {0})
      (one-exact (judged-exact s bytes w j) v (small, good) (λ x h. only x h.1))
      (λ x. same-exact more (λ b. Ok b × (tt {0} ≡ tt)) rest (λ b h. (h, refl)) (λ b h. h.0) (λ b h. refl)))
      Ok (λ b. be w v ++ rest b) (λ b h. h.1) (λ b h. (tt, h)) (λ b h. refl)

  -- a field that is v, else 3
  pub mark-exact : {A B : Type 0} {m : Reader A} {view : A → B} {Ok : B → Type 0} {rest : B → List ℕ} (w v : ℕ) → v < 256 ^ w → Exact s m view Ok rest
      → Exact s (judged w (λ x. unless (eqb x v) 3) >>= (λ x. m)) view Ok (λ b. be w v ++ rest b)
  mark-exact w v small more = only-exact w v (λ x. unless (eqb x v) 3) small (ap (λ (b : Bool). unless b 3) (eq-eqb v v refl)) (λ x h. eqb-true x v (unless-fine (eqb x v) 3 h)) more

-- a step, then what depends on its value b: what follows is allowed by b and the whole d, of which b is a part
module _ {A B C D : Type 0} {s : List ℕ} {m : Reader A} {k : A → Reader C} {viewA : A → B} {OkA : B → Type 0} {serA : B → List ℕ}
    {viewD : C → D} (Ok : B → D → Type 0) (rest : B → D → List ℕ) (part : D → B) (one : Exact s m viewA OkA serA)
    (agrees : (b : B) (d : D) → Ok b d → part d ≡ b) (two : (a : A) → Exact s (k a) viewD (Ok (viewA a)) (rest (viewA a))) where
  abbrev Whole : D → Type 0
  Whole d = OkA (part d) × Ok (part d) d

  abbrev ser : D → List ℕ
  ser d = serA (part d) ++ rest (part d) d

  then-reads : (at : ℕ) (d : D) → Whole d → At s at (ser d) → (c : C) × ((m >>= k) s at ≡ ok c (at + length (ser d))) × (viewD c ≡ d)
  then-reads at d fit h =
      let p : B = part d in
      let x = one.reads at p fit.0 (at_left s at (serA p) (rest p d) h) in
      let b : viewA x.0 ≡ p = x.2 in
      let y = (two x.0).reads (at + length (serA p)) d (subst (λ (z : B). Ok z d) (sym b) fit.1) (subst (λ (z : B). At s (at + length (serA p)) (rest z d)) (sym b) (at_right s at (serA p) (rest p d) h)) in
      let l : at + length (serA p) + length (rest (viewA x.0) d) ≡ at + length (serA p ++ rest p d) =
      ap (λ (z : B). at + length (serA p) + length (rest z d)) b ∙ omega (arith, length-append (serA p) (rest p d)) in
      (y.0, ap (λ (r : Res A). then r (λ a n. k a s n)) x.1 ∙ y.1 ∙ ap (λ (n : ℕ). ok y.0 n) l, y.2)

  then-writes : (at : ℕ) → at ≤ length s → (c : C) (q : ℕ) → (m >>= k) s at ≡ ok c q → Whole (viewD c) × At s at (ser (viewD c)) × (at + length (ser (viewD c)) ≡ q)
  then-writes at le c q e =
      let t = then-inv (m s at) _ e in
      let x = one.writes at le t.0 t.1 t.2 in
      let r : t.1 ≤ length s = omega (arith, at_in s at (serA (viewA t.0)) x.1, x.2) in
      let y = (two t.0).writes t.1 r c q t.3 in
      let d : D = viewD c in
      let b : viewA t.0 ≡ part d = sym (agrees (viewA t.0) d y.0) in
      let l : at + length (serA (part d)) ≡ t.1 = ap (λ (z : B). at + length (serA z)) (sym b) ∙ x.2 in
      let n : t.1 + length (rest (part d) d) ≡ q = ap (λ (z : B). t.1 + length (rest z d)) (sym b) ∙ y.2 in (
        (subst OkA b x.0, subst (λ (z : B). Ok z d) b y.0),
        at_next s at (serA (part d)) (rest (part d) d) t.1 l (subst (λ (z : B). At s at (serA z)) b x.1) (subst (λ (z : B). At s t.1 (rest z d)) b y.1),
        omega (arith, length-append (serA (part d)) (rest (part d) d)),
      )

  pub then-exact : Exact s (m >>= k) viewD (λ d. OkA (part d) × Ok (part d) d) (λ d. serA (part d) ++ rest (part d) d)
  then-exact = record { reads = then-reads; writes = then-writes }
