-- The first n numbers of a run go one way.
use Rattle.std.specs.Prelude.{ℕ, ◌+◌, ◌≤◌, ◌<◌, ◌≡◌, List, Bool, length, get_or}
use Rattle.order.specs.Order.{Order, is_less}

-- of the first n each stands before the one before it, or none does
pub record Stretch (by : ℕ → ℕ → Order) (xs : List ℕ) (down : Bool) (n : ℕ) : Type 0 where
  pub within : n ≤ length xs
  pub steps : (k : ℕ) → k + 1 < n → is_less (by (get_or xs (k + 1) 0) (get_or xs k 0)) ≡ down
