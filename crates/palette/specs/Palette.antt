-- The colours of a palette, an ACO or an ASE file, in file order: what is compared and reported. Groups are left aside, and inks too.
use Rattle.std.specs.Prelude.{ℕ, List, [], ◌∷◌, map}
use Rattle.algebra.specs.Reader.{Res, map_res}
use Rattle.aco.specs.Reading.{Entry, Contents, aco}
use Rattle.ase.specs.Reading.{Entry as AseEntry, group_start_read, group_end_read, colour_read, ase}
use Rattle.ase.specs.Row.{four_of}
use Rattle.palette.specs.declared.Kind.{Kind}
use Rattle.palette.specs.declared.Kind.TheVariants.{Aco, Ase}

-- a colour's value as its format has it: a space and four samples; or a model's tag and the bits of four channels, 0 in the places that the model does
-- not use
pub data Value : Type 0 where
  samples : ℕ → List ℕ → Value
  channels : ℕ → List ℕ → Value

-- a colour: its value, and the units of its name, none where it has no name
pub record PaletteColour : Type 0 where
  pub value : Value
  pub name : List ℕ

-- of an ACO file: its records; where list 2 is absent their names are empty
abbrev pub aco_colour : Entry → PaletteColour
aco_colour e = record { value = samples e.colour.space e.colour.samples; name = e.name.units }

abbrev pub aco_colours : Contents → List PaletteColour
aco_colours c = map aco_colour c.records

-- of an ASE file: those of its records that are colours
unfoldable pub ase_colours : List AseEntry → List PaletteColour
ase_colours [] = []
ase_colours (group_start_read nm ∷ es) = ase_colours es
ase_colours (group_end_read ∷ es) = ase_colours es
ase_colours (colour_read nm t bs k ∷ es) = record { value = channels t (four_of bs); name = nm.units } ∷ ase_colours es

-- the colours of a file of a kind, or the file's own refusal
abbrev pub colours : Kind → List ℕ → Res (List PaletteColour)
colours Aco s = map_res aco_colours (aco s)
colours Ase s = map_res ase_colours (ase s)
