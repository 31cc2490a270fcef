-- A record as a row of numbers, in a table that reading fills and in a run that is written: which number is what.
use Rattle.std.specs.Prelude.{ℕ, ◌+◌, List, [], ◌∷◌, ◌++◌, map, length, get_or}
use Rattle.colour.specs.Inks.{ink_number}
use Rattle.colour.specs.declared.ink.Ink.{Ink}
use Rattle.colour.specs.declared.ink.Ink.TheVariants.{Spot, Process, NotStated}
use Rattle.acb.specs.Grammar.{Tag, none, spot, process}
use Rattle.acb.specs.Reading.{Entry, Contents}

-- a record as it is given: its name by the place of its first unit and its number of units, its code, four components, and its ink
pub record RecordRow : Type 0 where
  pub name : ℕ × ℕ
  pub code : List ℕ
  pub components : List ℕ
  pub ink : ℕ

-- six and four numbers of a list from number k on, 0 past its end
abbrev pub six : List ℕ → ℕ → List ℕ
six l k = get_or l k 0 ∷ get_or l (k + 1) 0 ∷ get_or l (k + 2) 0 ∷ get_or l (k + 3) 0 ∷ get_or l (k + 4) 0 ∷ get_or l (k + 5) 0 ∷ []

abbrev pub four : List ℕ → ℕ → List ℕ
four l k = get_or l k 0 ∷ get_or l (k + 1) 0 ∷ get_or l (k + 2) 0 ∷ get_or l (k + 3) 0 ∷ []

-- how many numbers a row has
abbrev pub width : ℕ
width = 13

-- place of the name's first unit, number of units, six code bytes, four components, ink
abbrev pub numbers : RecordRow → List ℕ
numbers g = g.name.0 ∷ g.name.1 ∷ (six g.code 0 ++ (four g.components 0 ++ (g.ink ∷ [])))

-- the way back
abbrev pub taken : List ℕ → RecordRow
taken l = record { name = (get_or l 0 0, get_or l 1 0); code = six l 2; components = four l 8; ink = get_or l 12 0 }

-- a record that was read by itself, with 0 in the place that its space does not use: before the closing tag is known, its ink is not stated
abbrev pub given_of : Entry → RecordRow
given_of e = record { name = (e.name.first, length e.name.units); code = six e.code 0; components = four e.components 0; ink = ink_number NotStated }

-- ---- the ink of a book's records

-- what its closing tag states
abbrev pub tag_ink : Tag → Ink
tag_ink none = NotStated
tag_ink spot = Spot
tag_ink process = Process

-- a record with that ink
abbrev pub stated : ℕ → RecordRow → RecordRow
stated k g = record { name = g.name; code = g.code; components = g.components; ink = k }

-- all records of a book that was read, dummies too
abbrev pub records_of : Contents → List RecordRow
records_of c = map (λ e. stated (ink_number (tag_ink c.tag)) (given_of e)) c.entries
