-- A file's records in a table, and a record by its number.
use Rattle.std.specs.Prelude.{ℕ, ◌+◌, ◌*◌, List, [], leb, length}
use Rattle.algebra.specs.Numbers.{num, nums}
use Rattle.algebra.specs.Reader.{Res, pick}
use Rattle.algebra.specs.Store.{part}
use Rattle.algebra.specs.Table.{Verdict, accepted, refused, seen}
use Rattle.algebra.specs.Table as table
use Rattle.algebra.specs.Filling.{records_in}
use Rattle.colour.specs.declared.space.Colour.{Colour}
use Rattle.aco.specs.Reading.{Entry, Contents, zero_colour, unnamed}
use Rattle.aco.specs.Row.{RecordRow, width, given_of, row}
use Rattle.aco_judge.specs.Answer.{report}

abbrev pub records : Contents → List Entry
records c = c.records

-- what reading does with a lent table
abbrev pub filled : Res Contents → List ℕ → Verdict (ℕ × ℕ) × List ℕ
filled m t = table.filled width row records report m t

-- record i, as its row gives it
abbrev pub record_at : ℕ → Res Contents → Verdict RecordRow
record_at i m = seen given_of (table.record_at records (unnamed zero_colour) i m)

-- the same by value: its colour, all zeros on a refusal, where its name lies, and its ink, 0 on a refusal
abbrev pub by_value : Verdict RecordRow → Colour × Verdict (ℕ × ℕ) × ℕ
by_value (accepted g) = (record { space = g.space; samples = g.samples }, accepted (g.first, g.units), g.ink)
by_value (refused x p r f) = (zero_colour, refused x p r f, 0)

-- the bytes of a name's units in the file; none on a refusal
abbrev pub name_bytes_in : List ℕ → Verdict RecordRow → List ℕ
name_bytes_in s (accepted g) = part s g.first (2 * g.units)
name_bytes_in s (refused x p r f) = []

-- the records of a file that is accepted, else none
abbrev pub records_of : Res Contents → List Entry
records_of m = records_in records m

-- the colour in the ten bytes from a place, as it stands there; all zeros where they are not there
abbrev pub colour_or_zero : List ℕ → ℕ → Colour
colour_or_zero s at = pick (leb (at + 10) (length s)) (record { space = num 2 s at; samples = nums 2 4 s (at + 2) }) zero_colour
