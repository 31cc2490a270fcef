-- A report: 31 totals over files. One file's totals are defined over what reading it gives.
use Rattle.std.specs.Prelude.{ℕ, ◌+◌, List, [], ◌∷◌, map, Bool, true, ◌&&◌, leb, eqb, length, get_or}
use Rattle.algebra.specs.Chars.{chars}
use Rattle.algebra.specs.Numbers.{counted}
use Rattle.algebra.specs.Reader.{Res, ok, refuse, pick}
use Rattle.algebra.specs.Text.{is_empty}
use Rattle.acb.specs.Reading.{Entry, Contents, acb}
use Rattle.descriptor.specs.Reading.{Row, descriptor}
use Rattle.palette.specs.Palette.{Value, samples, channels, PaletteColour, colours}
use Rattle.palette.specs.declared.Kind.TheVariants as palette
use Rattle.report.specs.declared.Kind.{Kind}
use Rattle.report.specs.declared.Kind.TheVariants.{Aco, Ase, Acb, Descriptor}

-- ---- totals

-- how many there are: 0 accepted; 1 to 14 refused by that number; 15 to 19 ACO colours, 20 to 23 ASE colours, 24 to 26 ACB colours; 27 named, 28 unnamed;
-- 29 dummies; 30 descriptor rows
abbrev pub totals : ℕ
totals = 31

-- the largest number that a total may be
abbrev pub bound : ℕ
bound = 4294967295

-- the report of no file
unfoldable pub none : List ℕ
none = counted (λ i. 0) totals 0

-- n in total k, and 0 in all others
unfoldable pub many : ℕ → ℕ → List ℕ
many k n = counted (λ i. pick (eqb i k) n 0) totals 0

-- one in total k
abbrev pub one : ℕ → List ℕ
one k = many k 1

-- two reports, total by total
unfoldable pub plus : List ℕ → List ℕ → List ℕ
plus r t = counted (λ i. get_or r i 0 + get_or t i 0) totals 0

unfoldable pub sum : List (List ℕ) → List ℕ
sum [] = none
sum (t ∷ ts) = plus t (sum ts)

-- ---- what is counted of one record

-- ACO by the space: RGB, HSB, CMYK, Lab, gray. ASE by the model: RGB, CMYK, LAB, Gray. Files that are accepted have no other
abbrev pub value_place : Value → ℕ
value_place (samples x vs) = pick (eqb x 0) 15 (pick (eqb x 1) 16 (pick (eqb x 2) 17 (pick (eqb x 7) 18 19)))
value_place (channels t bs) = pick (eqb t (chars "RGB ")) 20 (pick (eqb t (chars "CMYK")) 21 (pick (eqb t (chars "LAB ")) 22 23))

-- named, or unnamed
abbrev pub name_place : List ℕ → ℕ
name_place us = pick (is_empty us) 28 27

abbrev pub colour_totals : PaletteColour → List ℕ
colour_totals c = plus (one (value_place c.value)) (one (name_place c.name))

-- ACB by the space of the book: RGB, CMYK, Lab
abbrev pub book_place : ℕ → ℕ
book_place x = pick (eqb x 0) 24 (pick (eqb x 2) 25 26)

-- a record without a name is a dummy, and nothing else; any other is a named colour
abbrev pub record_totals : ℕ → Entry → List ℕ
record_totals x e = pick (is_empty e.name.units) (one 29) (plus (one (book_place x)) (one 27))

-- ---- one file

abbrev pub palette_totals : List PaletteColour → List ℕ
palette_totals cs = sum (map colour_totals cs)

abbrev pub book_totals : Contents → List ℕ
book_totals c = sum (map (record_totals c.header.numbers.space) c.entries)

-- every row, the root too
abbrev pub row_totals : List Row → List ℕ
row_totals rs = many 30 (length rs)

-- a file's number and place, 0 where it is accepted, and its totals: one accepted and what is counted of it; or one refused by its number, and nothing else
pub record FileReport : Type 0 where
  pub number : ℕ
  pub place : ℕ
  pub totals : List ℕ

abbrev pub report_of : {A : Type 0} → (A → List ℕ) → Res A → FileReport
report_of inside (ok a q) = record { number = 0; place = 0; totals = plus (one 0) (inside a) }
report_of inside (refuse x p r f) = record { number = x; place = p; totals = one x }

abbrev pub file_report : Kind → List ℕ → FileReport
file_report Aco s = report_of palette_totals (colours palette.Aco s)
file_report Ase s = report_of palette_totals (colours palette.Ase s)
file_report Acb s = report_of book_totals (acb s)
file_report Descriptor s = report_of row_totals (descriptor s)

-- ---- added to a report

-- no total passes the bound
unfoldable pub fits : List ℕ → Bool
fits [] = true
fits (t ∷ ts) = leb t bound && fits ts

-- two reports as one; 5 where a total would pass the bound, and the first stays
abbrev pub merged : List ℕ → List ℕ → ℕ × List ℕ
merged r t = pick (fits (plus r t)) (0, plus r t) (5, r)

-- the call's own number, the file's number and place, and the report: with the file's totals, or as it was
abbrev pub added : List ℕ → FileReport → ℕ × ℕ × ℕ × List ℕ
added r f = ((merged r f.totals).0, f.number, f.place, (merged r f.totals).1)
