-- An item read from its bytes alone: what a reader of at most w bytes gives at `from` in a file, it gives at 0 in the w bytes from there, or in as many as the file has. Assumes nothing.
use Prim.Native.Nat.{ℕ, zero, suc, ◌+◌, ◌*◌, ◌-◌, ◌≤◌, ◌<◌}
use mathlib.Core.Path.{◌≡◌, refl, sym, ap, ap₂, ◌∙◌, subst}
use mathlib.Core.List.{List, [], ◌∷◌}
use mathlib.Core.Bool.{Bool, true, false}
use lib.Dec.{leb}
use lib.ListN.{length, get_or}
use borrow.Author.Tests.{leb-true, leb-false}
use native.Mathlib.Omega.{arith}
use native.Mathlib.Nat.{suc-mul}
use Rattle.algebra.specs.Numbers.{num}
use Rattle.algebra.specs.Reader.{Res, ok, refuse, Reader, then, rule, field, shift, Judged, fine, fault, judged, give, ◌>>=◌, each}
use Rattle.algebra.proofs.Inverse.{judged-inv, clash, ok-place}
use Rattle.algebra.proofs.Laws.{field_in, field-short}

-- b has the bytes of s from `from`, and is w bytes long or ends where s ends
pub record Window (w : ℕ) (s : List ℕ) (from : ℕ) (b : List ℕ) : Type 0 where
  pub inside : from + length b ≤ length s
  pub most : (length b < w → from + length b ≡ length s)
  pub bytes : (k : ℕ) → k < length b → get_or b k 0 ≡ get_or s (from + k) 0

module _ (w : ℕ) (s : List ℕ) (from : ℕ) (b : List ℕ) (h : Window w s from b) where
  -- a reader of v bytes, at any place of b from which they are among the w
  pub record Alone {A : Type 0} (v : ℕ) (p : Reader A) : Type 0 where
    pub same : (d : ℕ) → d + v ≤ w → d ≤ length b → p s (from + d) ≡ shift from (p b d)
    pub moves : (d : ℕ) → d ≤ length b → (a : A) (q : ℕ) → p b d ≡ ok a q → (q ≡ d + v) × (d + v ≤ length b)

  widen : {A : Type 0} {v u : ℕ} {p : Reader A} → Alone v p → v ≡ u → Alone u p
  widen {p = p} a e = subst (λ (n : ℕ). Alone n p) e a

  num-alone : (v d : ℕ) → d + v ≤ length b → num v s (from + d) ≡ num v b d
  unfolding num
  num-alone zero d l = refl
  num-alone (suc v) d l =
      let e : from + d + v ≡ from + (d + v) = omega arith in
      ap₂ (λ (x y : ℕ). x * 256 + y) (num-alone v d (omega arith)) (ap (λ (k : ℕ). get_or s k 0) e ∙ sym (h.bytes (d + v) (omega arith)))

  pub field-alone : (v : ℕ) (d : ℕ) → d + v ≤ w → d ≤ length b → field v s (from + d) ≡ shift from (field v b d)
  field-alone v d l m = go (leb v (length b - d)) refl
    where
      go : (t : Bool) → leb v (length b - d) ≡ t → field v s (from + d) ≡ shift from (field v b d)
      go true e =
          let i = leb-true v (length b - d) e in
          let q : from + d + v ≡ from + (d + v) = omega arith in
          field_in v s (from + d) (omega (arith, h.inside)) ∙ ap₂ (λ (x y : ℕ). ok x y) (num-alone v d (omega arith)) q ∙ sym (ap (λ (y : Res ℕ). shift from y) (field_in v b d i))
      go false e =
          let i = leb-false v (length b - d) e in
          let n : from + length b ≡ length s = h.most (omega arith) in
          field-short v s (from + d) (omega arith) ∙ sym (ap (λ (y : Res ℕ). shift from y) (field-short v b d i))

  rule-shift : (j : Judged) (d u q : ℕ) → rule j (from + d) (ok u (from + q)) ≡ shift from (rule j d (ok u q))
  rule-shift fine d u q = refl
  rule-shift (fault x r f) d u q = refl

  judged-same : (j : ℕ → Judged) (d : ℕ) (m : Res ℕ) → then (shift from m) (λ u n. rule (j u) (from + d) (ok u n)) ≡ shift from (then m (λ u n. rule (j u) d (ok u n)))
  judged-same j d (ok u q) = rule-shift (j u) d u q
  judged-same j d (refuse x p r f) = refl

  pub judged-alone : (v : ℕ) (j : ℕ → Judged) → Alone v (judged v j)
  judged-alone v j = record {
    same = λ d l m. ap (λ (y : Res ℕ). then y (λ u n. rule (j u) (from + d) (ok u n))) (field-alone v d l m) ∙ judged-same j d (field v b d);
    moves = λ d m a q e. let i = judged-inv v b d j e in (omega arith, omega arith);
  }

  pub give-alone : {A : Type 0} (a : A) → Alone 0 (give a)
  give-alone a = record { same = λ d l m. refl; moves = λ d m c q e. (omega (arith, ok-place e), omega arith) }

  module _ {A B : Type 0} (v u : ℕ) (p : Reader A) (k : A → Reader B) (one : Alone v p) (two : (a : A) → Alone u (k a)) where
    bind-same : (d : ℕ) → d + (v + u) ≤ w → d ≤ length b → (m : Res A) → p b d ≡ m → then (shift from m) (λ a n. k a s n) ≡ shift from (then m (λ a n. k a b n))
    bind-same d l g (ok a q) e = let i = one.moves d g a q e in (two a).same q (omega arith) (omega arith)
    bind-same d l g (refuse x n r f) e = refl

    bind-moves : (d : ℕ) → d ≤ length b → (m : Res A) → p b d ≡ m → (c : B) (q : ℕ) → then m (λ a n. k a b n) ≡ ok c q → (q ≡ d + (v + u)) × (d + (v + u) ≤ length b)
    bind-moves d g (ok a n) i c q e =
        let x = one.moves d g a n i in
        let y = (two a).moves n (omega arith) c q e in
        (omega arith, omega arith)
    bind-moves d g (refuse x n r f) i c q e = clash e

    pub bind-alone : Alone (v + u) (p >>= k)
    bind-alone = record {
      same = λ d l m. ap (λ (y : Res A). then y (λ a n. k a s n)) (one.same d (omega arith) m) ∙ bind-same d l m (p b d) refl;
      moves = λ d m c q e. bind-moves d m (p b d) refl c q e;
    }

  module _ {A : Type 0} (v : ℕ) (p : ℕ → Reader A) (one : (i : ℕ) → Alone v (p i)) where
    abbrev rest : ℕ → ℕ → A → Reader (List A)
    rest n i a = each n (i + 1) p >>= (λ more. give (a ∷ more))

    pub each-alone : (n i : ℕ) → Alone (n * v) (each n i p)
    unfolding each
    each-alone zero i = widen (give-alone []) (omega arith)
    each-alone (suc n) i =
        let e : v + (n * v + 0) ≡ suc n * v = sym (suc-mul n v ∙ omega arith) in
        widen (bind-alone v (n * v + 0) (p i) (rest n i) (one i) (λ a. bind-alone (n * v) 0 (each n (i + 1) p) (λ more. give (a ∷ more)) (each-alone n (i + 1)) (λ more. give-alone (a ∷ more)))) e
