-- Places of every d-th record, from which the others are near, and what is known on the way of a binary search.
use Rattle.std.specs.Prelude.{ℕ, ◌*◌, ◌<◌, ◌≤◌, ◌≡◌, List, [], Bool, true, false, ltb, get_or}
use Rattle.algebra.specs.Reader.{pick}
use Rattle.order.specs.Order.{Order, less, same, greater}
use Rattle.acb_order.specs.Names.{compare_names}
use Rattle.acb_order.specs.scaffold.Places.{record_place}

-- so many records have at most 4,096 marks, d apart
pub record Spaced (count d : ℕ) : Type 0 where
  pub some : 0 < d
  pub most : d ≤ 16
  pub enough : count ≤ d * 4096

-- number j of a run of marks is the place of record d j, where there is one
abbrev pub Marked : List ℕ → ℕ → ℕ → ℕ → ℕ → List ℕ → Type 0
Marked s n p d count marks = (j : ℕ) → d * j < count → get_or marks j 0 ≡ record_place n s p (d * j)

abbrev pub is_greater : Order → Bool
is_greater less = false
is_greater same = false
is_greater greater = true

-- whether us comes after the name of record i, of so many; it comes before that of no record
abbrev pub is_after : List (List ℕ) → ℕ → List ℕ → ℕ → Bool
is_after ns count us i = is_greater (pick (ltb i count) (compare_names us (get_or ns i [])) less)

-- a name against that of entry k
abbrev pub at_entry : List (List ℕ) → List ℕ → List ℕ → ℕ → Order
at_entry ns t us k = compare_names us (get_or ns (get_or t k 0) [])

-- the first m entries come before us as far as entry k, and from there on they do not
pub record Bracket (ns : List (List ℕ)) (t : List ℕ) (m : ℕ) (us : List ℕ) (k : ℕ) : Type 0 where
  pub within : k ≤ m
  pub before : (i : ℕ) → i < k → at_entry ns t us i ≡ greater
  pub from : (i : ℕ) → k ≤ i → i < m → is_greater (at_entry ns t us i) ≡ false
