-- A file's records in a table, and a record by its number.
use Rattle.std.specs.Prelude.{ℕ, ◌*◌, List, []}
use Rattle.algebra.specs.Reader.{Res}
use Rattle.algebra.specs.Store.{part}
use Rattle.algebra.specs.Table.{Verdict, accepted, refused, seen}
use Rattle.algebra.specs.Table as table
use Rattle.algebra.specs.Filling.{records_in}
use Rattle.ase.specs.Reading.{Entry, group_end_read}
use Rattle.ase.specs.Row.{RecordRow, width, numbers, given_of}
use Rattle.ase_judge.specs.Answer.{report}

-- the records of an accepted file
abbrev pub entries_of : Res (List Entry) → List Entry
entries_of m = records_in (λ es. es) m

-- a record's row
abbrev pub row : Entry → List ℕ
row e = numbers (given_of e)

-- what reading does with a lent table
abbrev pub filled : Res (List Entry) → List ℕ → Verdict (ℕ × ℕ) × List ℕ
filled m t = table.filled width row (λ es. es) report m t

-- record i, as its row gives it
abbrev pub record_at : ℕ → Res (List Entry) → Verdict RecordRow
record_at i m = seen given_of (table.record_at (λ es. es) group_end_read i m)

-- the bytes of a name's units in the file; none where the record has no name, and on a refusal
abbrev pub name_bytes_in : List ℕ → Verdict RecordRow → List ℕ
name_bytes_in s (accepted g) = part s g.first (2 * g.units)
name_bytes_in s (refused x p r f) = []
