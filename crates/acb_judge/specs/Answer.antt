-- What each answer of the code says.
use Rattle.std.specs.Prelude.{ℕ, List, [], ◌∷◌, map, length, Result, Ok, Err}
use Rattle.algebra.specs.Table.{Verdict, accepted, refused}
use Rattle.algebra.specs.Text.{Name}
use Rattle.fault.specs.Fault.{number_of}
use Rattle.fault.specs.declared.Refusal.{Refusal}
use Rattle.names.specs.declared.Name.{Name as Text}
use Rattle.acb.specs.Grammar.{Tag, none, spot, process}
use Rattle.acb.specs.Reading.{Header, Contents}
use Rattle.acb_judge.specs.declared.Header.{Header as Heading}
use Rattle.acb_judge.specs.declared.Tag.{Tag as Ending}
use Rattle.acb_judge.specs.declared.Tag.TheVariants as vt
use Rattle.acb_judge.specs.declared.Book.{Book}

-- ---- the header

-- where a string lies: the place of its first unit, and its number of units
abbrev pub text_place : Name → ℕ × ℕ
text_place nm = (nm.first, length nm.units)

abbrev pub told_text : Text → ℕ × ℕ
told_text t = (t.first, t.units)

-- a header with its strings by where they lie: title, prefix, suffix, description
pub record HeaderPlaces : Type 0 where
  pub identifier : ℕ
  pub texts : List (ℕ × ℕ)
  pub size : ℕ
  pub offset : ℕ
  pub space : ℕ

abbrev pub header_places : Header → HeaderPlaces
header_places h = record { identifier = h.identifier; texts = map text_place h.texts; size = h.numbers.size; offset = h.numbers.offset; space = h.numbers.space }

abbrev pub told_header : Heading → HeaderPlaces
told_header h = record {
  identifier = h.identifier;
  texts = told_text h.title ∷ told_text h.prefix ∷ told_text h.suffix ∷ told_text h.description ∷ [];
  size = h.size;
  offset = h.offset;
  space = h.space;
}

-- ---- the verdict on a file

-- what is reported of an accepted file: the header, the tag, the number of records and the place of the first
pub record Report : Type 0 where
  pub header : HeaderPlaces
  pub tag : Tag
  pub count : ℕ
  pub first : ℕ

abbrev pub reported : HeaderPlaces → ℕ → ℕ → Tag → Report
reported h n p t = record { header = h; tag = t; count = n; first = p }

abbrev pub report : Contents → Report
report c = reported (header_places c.header) (length c.entries) c.first c.tag

abbrev pub told_tag : Ending → Tag
told_tag vt.None = none
told_tag vt.Spot = spot
told_tag vt.Process = process

abbrev pub told_book : Book → Report
told_book b = reported (told_header b.header) b.count b.first (told_tag b.tag)

abbrev pub told : Result Book Refusal → Verdict Report
told (Ok b) = accepted (told_book b)
told (Err e) = refused (number_of e.0) e.1 0 0
