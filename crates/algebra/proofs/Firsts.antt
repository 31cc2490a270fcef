-- Which of some faults is the first, as code that tests one after the other finds it. Assumes nothing.
use Prim.Native.Nat.{ℕ, ◌+◌, ◌<◌}
use mathlib.Core.Path.{◌≡◌, refl, sym, ap, ap₂, ◌∙◌}
use mathlib.Core.List.{List, [], ◌∷◌, map}
use mathlib.Core.Bool.{Bool, true, false}
use borrow.Author.Tests.{ne_eqb}
use native.Mathlib.Omega.{arith}
use Rattle.algebra.specs.Numbers.{All}
use Rattle.algebra.specs.Reader.{Res, ok, refuse, number_of, done, pick}
use Rattle.algebra.specs.Faults.{first_of, faults}
use Rattle.algebra.proofs.Tells.{first-none}

-- ---- the number of a refusal

number-done : {A : Type 0} (m : Res A) → number_of (done m) ≡ number_of m
number-done (ok a n) = refl
number-done (refuse x p r f) = refl

-- what code answers of a name that it only passes
pub name-number : {A : Type 0} (m : Res A) (r : Res Unit) → r ≡ done m → number_of r ≡ number_of m
name-number m r e = ap number_of e ∙ number-done m

-- ---- the first of two

pub first_found : (a b : ℕ) → (a ≡ 0 → ⊥) → first_of a b ≡ a
first_found a b h = simp (ne_eqb a 0 h)

-- what was found is the first fault, or the one behind it
pub hit : (r a b : ℕ) → r ≡ a → (r ≡ 0 → ⊥) → r ≡ first_of a b
hit r a b e h = e ∙ sym (first_found a b (λ z. h (e ∙ z)))

pub pass : (r a b z : ℕ) → z ≡ a → z ≡ 0 → r ≡ b → r ≡ first_of a b
pass r a b z e h k = k ∙ sym (first-none a b (sym e ∙ h))

-- a test that gives no fault holds
pub test-holds : (t : Bool) (m x : ℕ) → 0 < x → pick t m x ≡ 0 → (t ≡ true) × (m ≡ 0)
test-holds true m x h e = (refl, e)
test-holds false m x h e = absurd (omega arith)

-- ---- of a list

pub all-image : {A B : Type 0} (f : A → B) (P : ℕ → B → Type 0) (i : ℕ) (l : List A) → All (λ k a. P k (f a)) i l → All P i (map f l)
all-image f P i [] h = tt
all-image f P i (a ∷ l) h = (h.0, all-image f P (i + 1) l h.1)

pub all-source : {A B : Type 0} (f : A → B) (P : ℕ → B → Type 0) (i : ℕ) (l : List A) → All P i (map f l) → All (λ k a. P k (f a)) i l
all-source f P i [] h = tt
all-source f P i (a ∷ l) h = (h.0, all-source f P (i + 1) l h.1)

-- values that have the same faults have the same first fault
pub faults-same : {A : Type 0} (f g : A → ℕ) (i : ℕ) (l : List A) → All (λ k a. f a ≡ g a) i l → faults f l ≡ faults g l
unfolding faults
faults-same f g i [] h = refl
faults-same f g i (a ∷ l) h = ap₂ (λ (x y : ℕ). first_of x y) h.0 (faults-same f g (i + 1) l h.1)
