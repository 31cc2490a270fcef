-- What each answer of the code says.
use Rattle.std.specs.Prelude.{ℕ, Option, Some, None, Result, Ok, Err}
use Rattle.fault.specs.Fault.{number_of}
use Rattle.fault.specs.declared.Refusal.{Refusal}
use Rattle.acb_shown_values.specs.Pages.{Sample, is, none, Range, records, absent}

-- the record that a page shows, or a refusal's number and place
pub data Told : Type 0 where
  record_is : ℕ → Told
  refused : ℕ → ℕ → Told

abbrev pub told_page : Result ℕ Refusal → Told
told_page (Ok i) = record_is i
told_page (Err e) = refused (number_of e.0) e.1

-- a page that shows no record is 12
abbrev pub page_of : Sample → Told
page_of (is i) = record_is i
page_of none = refused 12 0

abbrev pub told_records : Option (ℕ × ℕ) → Range
told_records (Some r) = records r.0 r.1
told_records None = absent
