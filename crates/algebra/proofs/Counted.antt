-- Counted items, as a loop goes over them.
use Prim.Native.Nat.{ℕ, zero, suc, ◌+◌, ◌-◌, ◌≤◌, ◌<◌}
use mathlib.Core.Path.{◌≡◌, refl, sym, ap, ◌∙◌}
use mathlib.Core.List.{[], ◌∷◌}
use lib.ListN.{length, get_or}
use native.Mathlib.Omega.{arith}
use native.Mathlib.Nat.{sub-zero, add-zero}
use Rattle.algebra.specs.Numbers.{counted}
use Rattle.algebra.specs.Faults.{first_of, faults}
use Rattle.algebra.proofs.Tells.{first-none, first-inv}
use Rattle.algebra.proofs.Firsts.{hit}

module _ {A : Type 0} (f : ℕ → A) where
  pub counted_start : (n : ℕ) → counted f n 0 ≡ counted f (n - 0) 0
  counted_start n = ap (λ (k : ℕ). counted f k 0) (sym (sub-zero n))

  pub counted-turn : (n i : ℕ) → i < n → counted f (n - i) i ≡ f i ∷ counted f (n - (i + 1)) (i + 1)
  unfolding counted
  counted-turn n i h = let e : n - i ≡ suc (n - (i + 1)) = omega arith in ap (λ (k : ℕ). counted f k i) e

  pub counted-end : (n i : ℕ) → n ≤ i → counted f (n - i) i ≡ []
  unfolding counted
  counted-end n i h = let e : n - i ≡ 0 = omega arith in ap (λ (k : ℕ). counted f k i) e

  pub length-counted : (n k : ℕ) → length (counted f n k) ≡ n
  unfolding counted
  length-counted zero k = refl
  length-counted (suc n) k = ap suc (length-counted n (k + 1))

  pub getD-counted : (d : A) (n k i : ℕ) → i < n → get_or (counted f n k) i d ≡ f (k + i)
  unfolding counted
  getD-counted d zero k i h = absurd (omega arith)
  getD-counted d (suc n) k zero h = ap f (sym (add-zero k))
  getD-counted d (suc n) k (suc i) h = let e : k + 1 + i ≡ k + suc i = omega arith in getD-counted d n (k + 1) i (omega arith) ∙ ap f e

-- what is left has the first fault of all
module _ {A : Type 0} (f : A → ℕ) (item : ℕ → A) where
  faults-turn : (n i : ℕ) → i < n → faults f (counted item (n - i) i) ≡ first_of (f (item i)) (faults f (counted item (n - (i + 1)) (i + 1)))
  unfolding faults
  faults-turn n i h = ap (faults f) (counted-turn item n i h)

  pub faults-start : (n : ℕ) → faults f (counted item n 0) ≡ faults f (counted item (n - 0) 0)
  faults-start n = ap (faults f) (counted_start item n)

  -- no fault in what is left, so none in the next item
  pub faults-clear : (n i : ℕ) → i < n → faults f (counted item (n - i) i) ≡ 0 → (f (item i) ≡ 0) × (faults f (counted item (n - (i + 1)) (i + 1)) ≡ 0)
  faults-clear n i h e = first-inv _ _ (sym (faults-turn n i h) ∙ e)

  module _ (all n i : ℕ) (inv : all ≡ faults f (counted item (n - i) i)) where
    pub faults-found : i < n → (r : ℕ) → r ≡ f (item i) → (r ≡ 0 → ⊥) → r ≡ all
    faults-found h r e z = hit r _ _ e z ∙ sym (inv ∙ faults-turn n i h)

    pub faults-more : i < n → (r : ℕ) → r ≡ f (item i) → r ≡ 0 → all ≡ faults f (counted item (n - (i + 1)) (i + 1))
    faults-more h r e z = inv ∙ faults-turn n i h ∙ first-none _ _ (sym e ∙ z)

    pub faults-end : n ≤ i → 0 ≡ all
    unfolding faults
    faults-end h = sym (inv ∙ ap (faults f) (counted-end item n i h))
