-- What each answer of the code says.
use Rattle.std.specs.Prelude.{ℕ, Result, Ok, Err}
use Rattle.algebra.specs.Table.{Verdict, accepted}
use Rattle.colour.specs.Inks.{ink_number}
use Rattle.colour.specs.declared.space.Colour.{Colour}
use Rattle.aco.specs.Reading.{zero_colour}
use Rattle.aco_judge.specs.Answer.{rejected}
use Rattle.aco_judge.specs.declared.Rejection.{Rejection}
use Rattle.aco_read.specs.declared.SwatchRecord.{SwatchRecord}

-- a record: its colour, where its name lies, and its ink
abbrev pub told_swatch : SwatchRecord → Colour × Verdict (ℕ × ℕ) × ℕ
told_swatch w = (w.colour, accepted (w.name.first, w.name.units), ink_number w.ink)

-- the same, or a rejection
abbrev pub told_record : Result SwatchRecord Rejection → Colour × Verdict (ℕ × ℕ) × ℕ
told_record (Ok w) = told_swatch w
told_record (Err e) = (zero_colour, rejected e, 0)
