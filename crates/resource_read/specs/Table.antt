-- A section's records as a run of numbers, a record by its number, the bytes of its name and data, and the first block with an ID.
use Rattle.std.specs.Prelude.{ℕ, ◌+◌, List, [], ◌∷◌, map, length, ltb, eqb}
use Rattle.algebra.specs.Reader.{Res, ok, refuse, pick}
use Rattle.algebra.specs.Store.{part}
use Rattle.algebra.specs.Table.{Verdict, accepted, refused, filled, record_at}
use Rattle.resource.specs.Reading.{Entry}
use Rattle.resource.specs.Rows.{to_record, width, row}
use Rattle.resource.specs.declared.Record.{Record}

-- ---- the table

abbrev pub entry_row : Entry → List ℕ
entry_row e = row (to_record e)

-- what reading does with a lent table
abbrev pub tabled : Res (List Entry) → List ℕ → Verdict ℕ × List ℕ
tabled m t = filled width entry_row (λ es. es) length m t

-- ---- a record by its number

abbrev pub empty_record : Record
empty_record = record { id = 0; name = 0; letters = 0; payload = 0; size = 0 }

abbrev pub record_in : ℕ → Res (List Entry) → Verdict Record
record_in i m = record_at (map to_record) empty_record i m

-- the bytes of its name, and of its data; none on a refusal
abbrev pub name_of : List ℕ → Verdict Record → List ℕ
name_of s (accepted r) = part s r.name r.letters
name_of s (refused x p r f) = []

abbrev pub payload_of : List ℕ → Verdict Record → List ℕ
payload_of s (accepted r) = part s r.payload r.size
payload_of s (refused x p r f) = []

-- ---- the first block with an ID

-- its number, or the number of blocks where none has it
unfoldable pub index_of : ℕ → List Entry → ℕ
index_of i [] = 0
index_of i (e ∷ es) = pick (eqb e.id i) 0 (index_of i es + 1)

-- the section's own refusal first, then 12 where no block has it
abbrev pub found_in : ℕ → Res (List Entry) → Verdict ℕ
found_in i (refuse x p r f) = refused x p r f
found_in i (ok es q) = pick (ltb (index_of i es) (length es)) (accepted (index_of i es)) (refused 12 0 0 0)
