-- The first n numbers of a run: rearranged, and in order.
use Rattle.std.specs.Prelude.{ℕ, ◌≤◌, ◌<◌, ◌≡◌, List, false, length, get_or}
use Rattle.order.specs.Order.{Order, is_less}

-- the first n numbers of a run stand in ys as they stand in xs or in other places, each once, and the rest is untouched:
-- place k of ys has what place `from k` of xs has
pub record Rearranged (n : ℕ) (xs ys : List ℕ) : Type 0 where
  pub count : length ys ≡ length xs
  pub from : ℕ → ℕ
  pub is : (k : ℕ) → get_or ys k 0 ≡ get_or xs (from k) 0
  pub inside : (k : ℕ) → k < n → from k < n
  pub outside : (k : ℕ) → n ≤ k → from k ≡ k
  pub once : (j k : ℕ) → from j ≡ from k → j ≡ k

-- what stands at place a is not before what stands at place b
abbrev pub NotBefore : (ℕ → ℕ → Order) → List ℕ → ℕ → ℕ → Type 0
NotBefore by xs a b = is_less (by (get_or xs a 0) (get_or xs b 0)) ≡ false

-- of the first n none stands before an earlier one
abbrev pub Ordered : (ℕ → ℕ → Order) → ℕ → List ℕ → Type 0
Ordered by n xs = (i j : ℕ) → i < j → j < n → NotBefore by xs j i
