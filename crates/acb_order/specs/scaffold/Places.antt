-- Where the records of an accepted file stand, and their order there.
use Rattle.std.specs.Prelude.{ℕ, zero, suc, ◌+◌, ◌*◌, ◌≡◌, List, [], length}
use Rattle.algebra.specs.Reader.{Res, ok, refuse}
use Rattle.acb.specs.Reading.{Contents, acb, components_of}
use Rattle.order.specs.Order.{Order, or_else, compare}
use Rattle.acb_order.specs.Names.{compare_names}
use Rattle.acb_order.specs.Index.{names_of}
use Rattle.acb_order.specs.Places.{units_at, name_at}

-- records by their names, and those of equal names in the order of the file
abbrev pub place_order : List ℕ → ℕ → ℕ → Order
place_order s p q = or_else (compare_names (name_at s p) (name_at s q)) (compare p q)

-- the place behind the record of n components at a place
abbrev pub next_record : ℕ → List ℕ → ℕ → ℕ
next_record n s at = at + 4 + 2 * units_at s at + 6 + n

-- the place of record i, where the first stands at p
unfoldable pub record_place : ℕ → List ℕ → ℕ → ℕ → ℕ
record_place n s p zero = p
record_place n s p (suc i) = next_record n s (record_place n s p i)

-- the file is accepted: it has so many records of n components, the first at a place
pub record Opened (s : List ℕ) (count first n : ℕ) : Type 0 where
  pub contents : Contents
  pub end : ℕ
  pub read : acb s ≡ ok contents end
  pub counts : length contents.entries ≡ count
  pub starts : contents.first ≡ first
  pub sized : components_of contents.header.numbers.space ≡ n

-- the names of a file's records; none of a refused one
abbrev pub names_read : Res Contents → List (List ℕ)
names_read (ok c q) = names_of c
names_read (refuse x p r f) = []

abbrev pub names_in : List ℕ → List (List ℕ)
names_in s = names_read (acb s)
