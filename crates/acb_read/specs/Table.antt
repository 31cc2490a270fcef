-- The records of a file that was read, and the bytes of a record's name.
use Rattle.std.specs.Prelude.{ℕ, ◌*◌, List, [], length}
use Rattle.algebra.specs.Store.{part}
use Rattle.algebra.specs.Table.{Verdict, accepted, refused}
use Rattle.acb.specs.Reading.{Entry, Contents}

abbrev pub entries_of : Contents → List Entry
entries_of c = c.entries

-- no name, no code, no components
abbrev pub blank : Entry
blank = record { name = record { first = 0; units = [] }; code = []; components = [] }

-- the bytes of a name's units in the file; none on a refusal
abbrev pub name_bytes_in : List ℕ → Verdict Entry → List ℕ
name_bytes_in s (accepted e) = part s e.name.first (2 * length e.name.units)
name_bytes_in s (refused x p r f) = []
