-- What a run gives or why it is refused, by the positions of its elements: words of the theorems. Nothing here converts.
use Rattle.std.specs.Prelude.{ℕ, ◌≤◌, ◌<◌, ◌≡◌, List, length, get_or}
use Rattle.conversion.specs.Convert.{Converted, gives, refused}

-- as many results as elements, each that of its element
pub record Each (f : ℕ → Converted ℕ) (xs ys : List ℕ) : Type 0 where
  pub many : length ys ≡ length xs
  pub own : (j : ℕ) → j < length xs → f (get_or xs j 0) ≡ gives (get_or ys j 0)

-- element j is refused by the number n, and none before it
pub record FirstOf (f : ℕ → Converted ℕ) (xs : List ℕ) (n j : ℕ) : Type 0 where
  pub inside : j < length xs
  pub own : (p : ℕ) × (f (get_or xs j 0) ≡ refused n p)
  pub before : (h : ℕ) → h < j → (y : ℕ) × (f (get_or xs h 0) ≡ gives y)

-- the results from the start of the lent run, and past them what it held
pub record Filled (ys old out : List ℕ) : Type 0 where
  pub same : length out ≡ length old
  pub stored : (j : ℕ) → j < length ys → get_or out j 0 ≡ get_or ys j 0
  pub kept : (j : ℕ) → length ys ≤ j → get_or out j 0 ≡ get_or old j 0
