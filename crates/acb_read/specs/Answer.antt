-- What each answer of the code says.
use Rattle.std.specs.Prelude.{ℕ, List, [], Result, Ok, Err}
use Rattle.algebra.specs.Table.{Verdict, accepted, refused}
use Rattle.colour.specs.Inks.{ink_number}
use Rattle.fault.specs.Fault.{number_of}
use Rattle.fault.specs.declared.Refusal.{Refusal}
use Rattle.acb.specs.Reading.{Entry}
use Rattle.acb.specs.Row.{RecordRow, taken, given_of}
use Rattle.acb_judge.specs.Answer.{told_text}
use Rattle.acb_read.specs.declared.BookRecord.{BookRecord}
use Rattle.acb_read.specs.declared.RecordStep.{RecordStep}

-- a record as it is told: where its name lies, its code, its components, its ink
pub record RecordPlaces : Type 0 where
  pub name : Verdict (ℕ × ℕ)
  pub code : List ℕ
  pub components : List ℕ
  pub ink : ℕ

-- on a refusal code, components and ink are zeros
abbrev pub shown_by : RecordRow → Verdict (ℕ × ℕ) → RecordPlaces
shown_by g v = record { name = v; code = g.code; components = g.components; ink = g.ink }

-- a record of a book
abbrev pub places : Verdict RecordRow → RecordPlaces
places (accepted g) = shown_by g (accepted g.name)
places (refused x p r f) = shown_by (taken []) (refused x p r f)

-- a record by itself, before the closing tag is known
abbrev pub record_places : Verdict Entry → RecordPlaces
record_places (accepted e) = shown_by (given_of e) (accepted (given_of e).name)
record_places (refused x p r f) = shown_by (taken []) (refused x p r f)

-- a record of the code, as it is given
abbrev pub told_given : BookRecord → RecordRow
told_given w = record { name = told_text w.name; code = w.code; components = w.components; ink = ink_number w.ink }

abbrev pub told_record : Result BookRecord Refusal → RecordPlaces
told_record (Ok w) = places (accepted (told_given w))
told_record (Err e) = places (refused (number_of e.0) e.1 0 0)

-- the same with an ink
abbrev pub with_ink : ℕ → RecordPlaces → RecordPlaces
with_ink k w = record { name = w.name; code = w.code; components = w.components; ink = k }

-- the same, and the next place
abbrev pub told_record_step : RecordStep → RecordPlaces × ℕ
told_record_step w = (told_record w.swatch, w.next)
