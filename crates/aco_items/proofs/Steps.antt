-- Which stage comes next, on plain values. Assumes nothing.
use Prim.Native.Nat.{ℕ, ◌+◌, ◌-◌, ◌≤◌, ◌<◌}
use mathlib.Core.Path.{◌≡◌, sym, ap, ◌∙◌}
use mathlib.Core.Bool.{Bool, true, false}
use lib.Dec.{eqb}
use borrow.Author.Tests.{lt-ltb, le-ltb, eq-eqb, ne_eqb}
use Rattle.algebra.specs.Reader.{pick}
use Rattle.aco_chunks.specs.declared.Stage.{Stage}
use Rattle.aco_chunks.specs.declared.Stage.TheVariants as v
use Rattle.aco_chunks.specs.Chunks.{colours, entries, unit_done}

pub colours-left : (n i : ℕ) → i < n → v.Colour n i ≡ colours n i
colours-left n i h = sym (ap (λ (b : Bool). pick b (v.Colour n i) (v.Second n)) (lt-ltb i n h))

pub colours-over : (n i : ℕ) → n ≤ i → v.Second n ≡ colours n i
colours-over n i h = sym (ap (λ (b : Bool). pick b (v.Colour n i) (v.Second n)) (le-ltb i n h))

pub entries-left : (n i : ℕ) → i < n → v.Entry n i ≡ entries n i
entries-left n i h = sym (ap (λ (b : Bool). pick b (v.Entry n i) (v.End n)) (lt-ltb i n h))

pub entries_over : (n i : ℕ) → n ≤ i → v.End n ≡ entries n i
entries_over n i h = sym (ap (λ (b : Bool). pick b (v.Entry n i) (v.End n)) (le-ltb i n h))

module _ (n i at m : ℕ) (z : Bool) (u : ℕ) where
  abbrev zeroBy : Bool → Bool → Stage
  zeroBy o y = pick o (pick y (v.Fault 8 at 0 0) (entries n (i + 1))) (v.Unit n i at (m - 1) true)

  abbrev otherBy : Bool → Stage
  otherBy o = pick o (v.Fault 8 at 0 0) (v.Unit n i at (m - 1) z)

  pub last-twice : m ≡ 1 → u ≡ 0 → z ≡ true → v.Fault 8 at 0 0 ≡ unit_done n i at m z (eqb u 0)
  last-twice a b c = sym (ap (λ (t : Bool). unit_done n i at m z t) (eq-eqb u 0 b) ∙ ap (λ (o : Bool). zeroBy o z) (eq-eqb m 1 a) ∙ ap (λ (y : Bool). zeroBy true y) c)

  pub last-closes : m ≡ 1 → u ≡ 0 → z ≡ false → entries n (i + 1) ≡ unit_done n i at m z (eqb u 0)
  last-closes a b c = sym (ap (λ (t : Bool). unit_done n i at m z t) (eq-eqb u 0 b) ∙ ap (λ (o : Bool). zeroBy o z) (eq-eqb m 1 a) ∙ ap (λ (y : Bool). zeroBy true y) c)

  pub last-open : m ≡ 1 → (u ≡ 0 → ⊥) → v.Fault 8 at 0 0 ≡ unit_done n i at m z (eqb u 0)
  last-open a b = sym (ap (λ (t : Bool). unit_done n i at m z t) (ne_eqb u 0 b) ∙ ap (λ (o : Bool). otherBy o) (eq-eqb m 1 a))

  pub more-zero : (m ≡ 1 → ⊥) → u ≡ 0 → (k : ℕ) → k ≡ m - 1 → v.Unit n i at k true ≡ unit_done n i at m z (eqb u 0)
  more-zero a b k e = ap (λ (k : ℕ). v.Unit n i at k true) e ∙ sym (ap (λ (t : Bool). unit_done n i at m z t) (eq-eqb u 0 b) ∙ ap (λ (o : Bool). zeroBy o z) (ne_eqb m 1 a))

  pub more-other : (m ≡ 1 → ⊥) → (u ≡ 0 → ⊥) → (k : ℕ) → k ≡ m - 1 → v.Unit n i at k z ≡ unit_done n i at m z (eqb u 0)
  more-other a b k e = ap (λ (k : ℕ). v.Unit n i at k z) e ∙ sym (ap (λ (t : Bool). unit_done n i at m z t) (ne_eqb u 0 b) ∙ ap (λ (o : Bool). otherBy o) (ne_eqb m 1 a))
