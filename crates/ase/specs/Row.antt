-- A record as numbers, and as a row of a table or run (docs/INTERFACE.md, "Tables"): the one definition of a row's order and width.
use Rattle.std.specs.Prelude.{ℕ, List, [], ◌∷◌, ◌++◌, length, get_or}
use Rattle.ase.specs.Reading.{Entry, group_start_read, group_end_read, colour_read}
use Rattle.ase.specs.declared.RowNumbers.{RowNumbers}

-- a record: its block's type, its name by place and number of units in lent bytes, and a colour's model, channels and ink, which is its type
pub record RecordRow : Type 0 where
  pub block : ℕ
  pub first : ℕ
  pub units : ℕ
  pub model : ℕ
  pub channels : List ℕ
  pub ink : ℕ

-- ---- a row

-- how many numbers a record has
abbrev pub width : ℕ
width = 9

-- four channels: those of the model, and 0 in the places that it does not use
abbrev pub four_of : List ℕ → List ℕ
four_of bs = get_or bs 0 0 ∷ get_or bs 1 0 ∷ get_or bs 2 0 ∷ get_or bs 3 0 ∷ []

-- type of the block, place of the name's first unit, number of units, model, four channels, the ink
abbrev pub numbers : RecordRow → List ℕ
numbers g = g.block ∷ g.first ∷ g.units ∷ g.model ∷ (four_of g.channels ++ (g.ink ∷ []))

-- the record that a row's numbers give
abbrev pub taken : List ℕ → RecordRow
taken l = record {
  block = get_or l 0 0;
  first = get_or l 1 0;
  units = get_or l 2 0;
  model = get_or l 3 0;
  channels = get_or l 4 0 ∷ get_or l 5 0 ∷ get_or l 6 0 ∷ get_or l 7 0 ∷ [];
  ink = get_or l 8 0;
}

-- the same as the code has it
abbrev pub given_in : RowNumbers → RecordRow
given_in r = record {
  block = r.block;
  first = r.first;
  units = r.units;
  model = r.model;
  channels = r.channel0 ∷ r.channel1 ∷ r.channel2 ∷ r.channel3 ∷ [];
  ink = r.ink;
}

-- ---- the records of a file that was read: what a record does not have is 0

abbrev pub empty_record : RecordRow
empty_record = record { block = 0; first = 0; units = 0; model = 0; channels = 0 ∷ 0 ∷ 0 ∷ 0 ∷ []; ink = 0 }

abbrev pub group_start_row : ℕ → ℕ → RecordRow
group_start_row p u = record { block = 0xC001; first = p; units = u; model = 0; channels = 0 ∷ 0 ∷ 0 ∷ 0 ∷ []; ink = 0 }

abbrev pub group_end_row : RecordRow
group_end_row = record { block = 0xC002; first = 0; units = 0; model = 0; channels = 0 ∷ 0 ∷ 0 ∷ 0 ∷ []; ink = 0 }

abbrev pub colour_row : ℕ → ℕ → ℕ → List ℕ → ℕ → RecordRow
colour_row p u t bs k = record { block = 0x0001; first = p; units = u; model = t; channels = bs; ink = k }

abbrev pub given_of : Entry → RecordRow
given_of (group_start_read nm) = group_start_row nm.first (length nm.units)
given_of group_end_read = group_end_row
given_of (colour_read nm t bs k) = colour_row nm.first (length nm.units) t (four_of bs) k
