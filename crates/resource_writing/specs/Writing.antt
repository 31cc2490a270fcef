-- Writing records of a run of numbers: what is judged first, and the bytes that are made.
use Rattle.std.specs.Prelude.{ℕ, ◌+◌, List, [], ◌∷◌, map, leb, ltb}
use Rattle.algebra.specs.Reader.{pick, body, number_of, limit}
use Rattle.algebra.specs.Store.{part}
use Rattle.algebra.specs.Table.{whole}
use Rattle.algebra.specs.Faults.{first_of, faults}
use Rattle.algebra.specs.Writing.{Outcome, needs, writes}
use Rattle.resource.specs.Grammar.{Block, section_bytes}
use Rattle.resource.specs.Rows.{width, taken}
use Rattle.resource.specs.Tiling.{even}
use Rattle.resource.specs.declared.Record.{Record}

-- ---- the records of a run

-- as many records as fit whole in a run
abbrev pub given : List ℕ → List Record
given run = whole width taken run

-- the block of a record, whose name and data lie in `text`
abbrev pub block_by_row : List ℕ → Record → Block
block_by_row text r = record { id = r.id; name = part text r.name r.letters; payload = part text r.payload r.size }

-- ---- how long the section is: names and data count as long as they are given

abbrev pub size_within : Record → ℕ
size_within r = 6 + even (1 + r.letters) + 4 + even r.size

unfoldable pub sizes : List Record → ℕ
sizes [] = 0
sizes (r ∷ rs) = size_within r + sizes rs

-- ---- which fault comes first: a number of the refusal table, 0 where there is none

-- n bytes outside the lent bytes are 2; none of no bytes
abbrev pub part_fault : List ℕ → ℕ → ℕ → ℕ
part_fault text first n = number_of (body 1 n text first)

-- an ID past 16 bits is 5, a name of more than 255 bytes 5; then the name, then the data
unfoldable pub record_fault : List ℕ → Record → ℕ
record_fault text r =
    first_of (pick (ltb r.id 65536) 0 5)
    (first_of (pick (ltb r.letters 256) 0 5)
    (first_of (part_fault text r.name r.letters) (part_fault text r.payload r.size)))

-- first the limit, on the whole output's length; then the records in their order
unfoldable pub fault : List ℕ → List Record → ℕ
fault text rs = pick (leb (sizes rs) limit) (faults (record_fault text) rs) 1

-- ---- the answer

-- the exact length that writing needs, or the refusal
abbrev pub needed : List ℕ → List Record → Outcome
needed text rs = needs (fault text rs) (sizes rs)

-- what writing does with the lent bytes
abbrev pub written : List ℕ → List Record → List ℕ → Outcome × List ℕ
written text rs out = writes (fault text rs) (sizes rs) (section_bytes (map (block_by_row text) rs)) out
