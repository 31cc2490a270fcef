-- Lists in order, and lists of the same elements.
use Rattle.std.specs.Prelude.{◌≡◌, List, [], ◌∷◌}
use Rattle.algebra.specs.Reader.{pick}
use Rattle.order.specs.Order.{Order, less, is_less}

-- a stands before all of a list
abbrev pub Before : {A : Type 0} → (A → A → Order) → A → List A → Type 0
Before by a [] = Unit
Before by a (b ∷ more) = (by a b ≡ less) × Before by a more

-- strictly increasing: each stands before all that follow it
abbrev pub Increasing : {A : Type 0} → (A → A → Order) → List A → Type 0
Increasing by [] = Unit
Increasing by (a ∷ more) = Before by a more × Increasing by more

-- a is one of a list
pub data In {A : Type 0} (a : A) : List A → Type 0 where
  first : {b : A} {more : List A} → a ≡ b → In a (b ∷ more)
  later : {b : A} {more : List A} → In a more → In a (b ∷ more)

-- no element stands twice
abbrev pub Distinct : {A : Type 0} → List A → Type 0
Distinct [] = Unit
Distinct (a ∷ more) = (In a more → ⊥) × Distinct more

-- before the first that is not less
unfoldable pub insert : {A : Type 0} → (A → A → Order) → A → List A → List A
insert by a [] = a ∷ []
insert by a (b ∷ more) = pick (is_less (by b a)) (b ∷ insert by a more) (a ∷ b ∷ more)

-- the same elements in order
unfoldable pub sorted : {A : Type 0} → (A → A → Order) → List A → List A
sorted by [] = []
sorted by (a ∷ more) = insert by a (sorted by more)
