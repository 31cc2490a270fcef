-- What is left to compare of two names in a file, and of a name and one in a file.
use Rattle.std.specs.Prelude.{ℕ, ◌+◌, ◌-◌, ◌*◌, ◌<◌, ◌≤◌, List, length, drop}
use Rattle.algebra.specs.Numbers.{nums}
use Rattle.order.specs.Order.{Order}
use Rattle.acb_order.specs.Names.{compare_names}

-- a file has the n units from a place
abbrev pub Held : List ℕ → ℕ → ℕ → Type 0
Held s a n = 0 < n → a + 2 * n ≤ length s

-- of the m units from a and the n units from b, from unit k on
abbrev pub left : List ℕ → ℕ → ℕ → ℕ → ℕ → ℕ → Order
left s a m b n k = compare_names (nums 2 (m - k) s (a + 2 * k)) (nums 2 (n - k) s (b + 2 * k))

-- of some units and the n units from b, from unit k on
abbrev pub rest : List ℕ → List ℕ → ℕ → ℕ → ℕ → Order
rest s us b n k = compare_names (drop k us) (nums 2 (n - k) s (b + 2 * k))
