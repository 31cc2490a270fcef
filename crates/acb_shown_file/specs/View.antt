-- What a file shows: a record's components and full name, and a page's sample; the sample also by a table of records.
use Rattle.std.specs.Prelude.{ℕ, ◌*◌, ◌/◌, min, List, [], ◌∷◌, ◌++◌, map, Bool, leb, ltb, eqb, ℤ, pos, length, get_or, drop}
use Rattle.algebra.specs.Numbers.{be, joined}
use Rattle.algebra.specs.Reader.{Res, ok, refuse, pick}
use Rattle.algebra.specs.Text.{Name, is_empty}
use Rattle.algebra.specs.Store.{part}
use Rattle.algebra.specs.Table.{rows}
use Rattle.acb.specs.Reading.{Entry, components_of, Contents}
use Rattle.acb.specs.Row.{RecordRow, width, taken}
use Rattle.acb_read.specs.Table.{blank}
use Rattle.acb_shown_values.specs.Texts.{shown_text}
use Rattle.acb_shown_values.specs.Components.{shown_component}
use Rattle.acb_shown_values.specs.Pages.{sample_of}
use Rattle.acb_shown_values.specs.Answer.{Told, refused, page_of}

-- how many, or a refusal's number and place
pub data CountAnswer : Type 0 where
  counted : ℕ → CountAnswer
  refusal : ℕ → ℕ → CountAnswer

-- ---- components

-- what the components of a record of a space show, and 0 in the place that the space does not use
abbrev pub values_of : ℕ → List ℕ → List ℤ
values_of x ks =
    shown_component x 0 (get_or ks 0 0) ∷ shown_component x 1 (get_or ks 1 0) ∷ shown_component x 2 (get_or ks 2 0)
    ∷ pick (eqb (components_of x) 4) (shown_component x 3 (get_or ks 3 0)) (pos 0) ∷ []

-- on a refusal all zeros
abbrev pub no_values : List ℤ
no_values = pos 0 ∷ pos 0 ∷ pos 0 ∷ pos 0 ∷ []

-- the shown components of record i, and how many they are; the file's own refusal first, then 12 where it has no such record
abbrev pub shown_at : ℕ → Res Contents → List ℤ × CountAnswer
shown_at i (refuse x p r f) = (no_values, refusal x p)
shown_at i (ok c q) =
    pick (ltb i (length c.entries))
    (values_of c.header.numbers.space (get_or c.entries i blank).components, counted (components_of c.header.numbers.space))
    (no_values, refusal 12 0)

-- ---- pages

-- an empty name marks a dummy
abbrev pub dummy : Entry → Bool
dummy e = is_empty e.name.units

-- the same of a record by its numbers
abbrev pub unnamed : RecordRow → Bool
unnamed g = eqb g.name.1 0

-- which of `count` records of a table are dummies; those past its end are no records
abbrev pub dummies_in : List ℕ → ℕ → List Bool
dummies_in t count = map unnamed (rows width taken t (min count (length t / width)) 0)

-- the record that page p shows; the file's own refusal first, then 12 where there is none
abbrev pub page_at : ℕ → Res Contents → Told
page_at p (refuse x q r f) = refused x q
page_at p (ok c q) = page_of (sample_of c.header.numbers.size c.header.numbers.offset p (map dummy c.entries))

-- ---- full names

-- the bytes of a name's units
abbrev pub unit_bytes : Name → List ℕ
unit_bytes nm = joined (be 2) nm.units

-- the bytes of a string's units in the file
abbrev pub bytes_of : List ℕ → Name → List ℕ
bytes_of s nm = part s nm.first (2 * length nm.units)

abbrev pub no_name : Name
no_name = record { first = 0; units = [] }

-- the second and the third text of the header
abbrev pub prefix_of : Contents → Name
prefix_of c = get_or c.header.texts 1 no_name

abbrev pub suffix_of : Contents → Name
suffix_of c = get_or c.header.texts 2 no_name

-- prefix text, name, suffix text: the name is never cut
unfoldable pub full_name : List ℕ → Contents → Entry → List ℕ
full_name s c e = shown_text (bytes_of s (prefix_of c)) ++ (bytes_of s e.name ++ shown_text (bytes_of s (suffix_of c)))

-- the length of the full name of record i
abbrev pub full_length : List ℕ → ℕ → Res Contents → CountAnswer
full_length s i (refuse x p r f) = refusal x p
full_length s i (ok c q) = pick (ltb i (length c.entries)) (counted (length (full_name s c (get_or c.entries i blank)))) (refusal 12 0)

-- a full name written into lent bytes, which keep their contents past it; 11 comes last, and a refusal changes nothing
abbrev pub puts : List ℕ → List ℕ → CountAnswer × List ℕ
puts full out = pick (leb (length full) (length out)) (counted (length full), full ++ drop (length full) out) (refusal 11 0, out)

abbrev pub full_name_at : List ℕ → ℕ → Res Contents → List ℕ → CountAnswer × List ℕ
full_name_at s i (refuse x p r f) out = (refusal x p, out)
full_name_at s i (ok c q) out = pick (ltb i (length c.entries)) (puts (full_name s c (get_or c.entries i blank)) out) (refusal 12 0, out)
