-- A record's numbers: the one place that knows how a table or run lays them out.
use Rattle.std.specs.Prelude.{ℕ, List, [], ◌∷◌, length, get_or}
use Rattle.resource.specs.Reading.{Entry}
use Rattle.resource.specs.declared.Record.{Record}

-- the record of a block that was read
abbrev pub to_record : Entry → Record
to_record e = record { id = e.id; name = e.name.first; letters = length e.name.bytes; payload = e.payload.first; size = length e.payload.bytes }

-- how many numbers a record has
abbrev pub width : ℕ
width = 5

-- ID, place and length of the name, place and length of the data
abbrev pub row : Record → List ℕ
row r = r.id ∷ r.name ∷ r.letters ∷ r.payload ∷ r.size ∷ []

-- the record of a row
abbrev pub taken : List ℕ → Record
taken l = record { id = get_or l 0 0; name = get_or l 1 0; letters = get_or l 2 0; payload = get_or l 3 0; size = get_or l 4 0 }
