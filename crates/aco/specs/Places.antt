-- Where the records of list 2 stand, said without the reader.
use Rattle.std.specs.Prelude.{ℕ, zero, suc, ◌+◌, ◌*◌, List}
use Rattle.algebra.specs.Numbers.{num}

-- behind the record at e: ten bytes of colour, four of count, and the counted units
abbrev pub next_entry : List ℕ → ℕ → ℕ
next_entry s e = e + 14 + 2 * num 4 s (e + 10)

-- record i of list 2 in a file of n colours: list 1 is 4 + 10 * n bytes, list 2's heading 4
unfoldable pub entry_place : List ℕ → ℕ → ℕ → ℕ
entry_place s n zero = 8 + 10 * n
entry_place s n (suc i) = next_entry s (entry_place s n i)
