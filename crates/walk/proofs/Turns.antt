-- What the first calls of a walk answer and give, one after the other. Assumes nothing.
use Prim.Native.Nat.{ℕ, suc, ◌+◌, ◌-◌, ◌≤◌, ◌<◌}
use mathlib.Core.Path.{◌≡◌, refl, sym, ap, ap₂, ◌∙◌}
use mathlib.Core.List.{List, [], ◌∷◌}
use lib.ListN.{length}
use native.Mathlib.Omega.{arith}
use Rattle.walk.specs.Walk.{Call, gives, over, refused, Step, place_after, call, in_turn}
use Rattle.walk.specs.scaffold.Walk.{answers, followed, given}

module _ {A : Type 0} (f : Step A) where
  -- a walk whose calls are the items of a list gives that list
  pub given-all : (xs : List A) (at : ℕ) → ((i : ℕ) → call f at i ≡ in_turn xs i) → given f (length xs) at ≡ xs
  unfolding given place_after in_turn
  given-all [] at h = refl
  given-all (a ∷ more) at h =
      ap (λ (c : Call A). followed c (f at).1 (λ q. given f (length more) q)) (h 0) ∙ ap (λ (l : List A). a ∷ l) (given-all more (f at).1 (λ i. h (suc i)))

  -- before the first of n calls
  pub given-start : (n : ℕ) {p at : ℕ} → p ≡ at → given f n at ≡ given f (n - 0) p
  given-start n e = let z : n ≡ n - 0 = omega arith in ap₂ (λ (k q : ℕ). given f k q) z (sym e)

  pub answers-start : (n : ℕ) {p at : ℕ} → p ≡ at → answers f n at ≡ answers f (n - 0) p
  answers-start n e = let z : n ≡ n - 0 = omega arith in ap₂ (λ (k q : ℕ). answers f k q) z (sym e)

  -- call i of n is next
  module _ (n i at : ℕ) where
    pub given-none : n ≤ i → given f (n - i) at ≡ []
    unfolding given
    given-none h = let z : n - i ≡ 0 = omega arith in ap (λ (k : ℕ). given f k at) z

    pub answers-none : n ≤ i → answers f (n - i) at ≡ []
    unfolding answers
    answers-none h = let z : n - i ≡ 0 = omega arith in ap (λ (k : ℕ). answers f k at) z

    module _ (h : i < n) where
      pub answers_next : {c : Call A} {q : ℕ} → f at ≡ (c, q) → answers f (n - i) at ≡ c ∷ answers f (n - (i + 1)) q
      unfolding answers
      answers_next e =
          let z : n - i ≡ suc (n - (i + 1)) = omega arith in
          ap (λ (k : ℕ). answers f k at) z ∙ ap (λ (w : Call A × ℕ). w.0 ∷ answers f (n - (i + 1)) w.1) e

      -- what is given is what follows the call's answer
      given-after : given f (n - i) at ≡ followed (f at).0 (f at).1 (λ q. given f (n - (i + 1)) q)
      unfolding given
      given-after = let z : n - i ≡ suc (n - (i + 1)) = omega arith in ap (λ (k : ℕ). given f k at) z

      pub given-next : {a : A} {q : ℕ} → f at ≡ (gives a, q) → given f (n - i) at ≡ a ∷ given f (n - (i + 1)) q
      given-next e = given-after ∙ ap (λ (w : Call A × ℕ). followed w.0 w.1 (λ q. given f (n - (i + 1)) q)) e

      pub given-over : (f at).0 ≡ over → given f (n - i) at ≡ []
      given-over e = given-after ∙ ap (λ (c : Call A). followed c (f at).1 (λ q. given f (n - (i + 1)) q)) e

      pub given-refused : {x p : ℕ} → (f at).0 ≡ refused x p → given f (n - i) at ≡ []
      given-refused e = given-after ∙ ap (λ (c : Call A). followed c (f at).1 (λ q. given f (n - (i + 1)) q)) e
