-- Keys of records, and runs of them sorted. What is proved of building an index refuses a mistake here.
use Rattle.std.specs.Prelude.{ℕ, ◌/◌, List}
use Rattle.order.specs.Order.{Order, or_else, compare}
use Rattle.order.specs.Run.{Rearranged, Ordered}
use Rattle.acb_order.specs.Names.{compare_names}
use Rattle.acb_order.specs.Places.{name_at}

-- by the name of the record at the key's place, and those of equal names by key
abbrev pub key_order : List ℕ → ℕ → ℕ → Order
key_order s x y = or_else (compare_names (name_at s (x / 256)) (name_at s (y / 256))) (compare x y)

-- the first n numbers of a run are sorted, and the rest is untouched
pub record SortedKeys (s : List ℕ) (n : ℕ) (xs ys : List ℕ) : Type 0 where
  pub moved : Rearranged n xs ys
  pub ordered : Ordered (key_order s) n ys
