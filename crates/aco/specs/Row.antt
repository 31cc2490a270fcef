-- A record as a row of numbers, as reading lays it in a table and writing takes it from a run.
use Rattle.std.specs.Prelude.{ℕ, List, [], ◌∷◌, ◌++◌, length, get_or}
use Rattle.colour.specs.declared.space.Colour.{Colour}
use Rattle.colour.specs.Inks.{ink_number}
use Rattle.colour.specs.declared.ink.Ink.TheVariants.{NotStated}
use Rattle.aco.specs.Grammar.{Swatch}
use Rattle.aco.specs.Reading.{Entry, swatch}

-- a record as it is given: its space and samples, its name by the place of its first unit and the number of its units, and its ink
pub record RecordRow : Type 0 where
  pub space : ℕ
  pub samples : List ℕ
  pub first : ℕ
  pub units : ℕ
  pub ink : ℕ

-- how many numbers a row has
abbrev pub width : ℕ
width = 8

-- a record's numbers in their order
abbrev pub numbers : RecordRow → List ℕ
numbers g = g.space ∷ (g.samples ++ (g.first ∷ g.units ∷ g.ink ∷ []))

-- the way back, from the numbers of a row
abbrev pub taken : List ℕ → RecordRow
taken xs = record {
  space = get_or xs 0 0;
  samples = get_or xs 1 0 ∷ get_or xs 2 0 ∷ get_or xs 3 0 ∷ get_or xs 4 0 ∷ [];
  first = get_or xs 5 0;
  units = get_or xs 6 0;
  ink = get_or xs 7 0;
}

-- the record where there is none: all zeros
abbrev pub empty_record : RecordRow
empty_record = record { space = 0; samples = 0 ∷ 0 ∷ 0 ∷ 0 ∷ []; first = 0; units = 0; ink = 0 }

-- a colour and its name; a file does not state the ink
abbrev pub named_with : Colour → ℕ → ℕ → RecordRow
named_with c p u = record { space = c.space; samples = c.samples; first = p; units = u; ink = ink_number NotStated }

-- a record that was read, and its row
abbrev pub given_of : Entry → RecordRow
given_of e = named_with e.colour e.name.first (length e.name.units)

abbrev pub row : Entry → List ℕ
row e = numbers (given_of e)

-- ---- a record apart from where its name lies: a swatch, and its ink

pub record Record : Type 0 where
  pub swatch : Swatch
  pub ink : ℕ

-- a record that was read
abbrev pub to_record : Entry → Record
to_record e = record { swatch = swatch e; ink = (given_of e).ink }
