-- Pages of a book: which record a page shows, by which records are dummies.
use Rattle.std.specs.Prelude.{ℕ, ◌+◌, ◌-◌, ◌*◌, min, List, [], ◌∷◌, Bool, ltb, length, get_or, take, drop}
use Rattle.algebra.specs.Reader.{pick}

-- the record that a page shows, if any
pub data Sample : Type 0 where
  is : ℕ → Sample
  none : Sample

-- the numbers of the records that are no dummies, where the first is numbered i
unfoldable pub non_dummies : ℕ → List Bool → List ℕ
non_dummies i [] = []
non_dummies i (d ∷ ds) = pick d (non_dummies (i + 1) ds) (i ∷ non_dummies (i + 1) ds)

-- of some records the one numbered k from 0, or the last if there are fewer
unfoldable pub numbered : ℕ → List ℕ → Sample
numbered k [] = none
numbered k (i ∷ more) = is (get_or (i ∷ more) (min k (length more)) 0)

-- the sample among records that are dummies or not, where the first is numbered i
abbrev pub sample_from : ℕ → ℕ → List Bool → Sample
sample_from i offset ds = numbered offset (non_dummies i ds)

-- page p exists where p × size is less than the number of records, and has the `size` records from there, or those that are left
unfoldable pub sample_of : ℕ → ℕ → ℕ → List Bool → Sample
sample_of size offset p ds = pick (ltb (p * size) (length ds)) (sample_from (p * size) offset (take size (drop (p * size) ds))) none

-- the records of a page: the first, and the one behind the last; or there is no such page
pub data Range : Type 0 where
  records : ℕ → ℕ → Range
  absent : Range

abbrev pub page_range : ℕ → ℕ → ℕ → Range
page_range count size p = pick (ltb (p * size) count) (records (p * size) (p * size + min size (count - p * size))) absent
