-- Scaffolding: the form in which the code goes; cited by private contracts and by proofs.
use Rattle.std.specs.Prelude.{ℕ, zero, suc, List, [], ◌∷◌}
use Rattle.walk.specs.Walk.{Call, Step, gives, over, refused}

unfoldable pub answers : {A : Type 0} → Step A → ℕ → ℕ → List (Call A)
answers f zero at = []
answers f (suc n) at = (f at).0 ∷ answers f n (f at).1

abbrev pub followed : {A : Type 0} → Call A → ℕ → (ℕ → List A) → List A
followed (gives a) q next = a ∷ next q
followed over q next = []
followed (refused x p) q next = []

-- the items that they give, up to a call that gives none
unfoldable pub given : {A : Type 0} → Step A → ℕ → ℕ → List A
given f zero at = []
given f (suc n) at = followed (f at).0 (f at).1 (λ q. given f n q)
