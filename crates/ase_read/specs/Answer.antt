-- What each answer of the code says.
use Rattle.std.specs.Prelude.{Result, Ok, Err}
use Rattle.algebra.specs.Table.{Verdict, accepted, refused}
use Rattle.fault.specs.Fault.{number_of}
use Rattle.fault.specs.declared.Refusal.{Refusal}
use Rattle.ase.specs.Row.{RecordRow, group_start_row, group_end_row, colour_row}
use Rattle.colour.specs.Models.{traits_of}
use Rattle.colour.specs.Channels.{bits_of, model_in}
use Rattle.colour.specs.Inks.{ink_number}
use Rattle.ase_read.specs.declared.NamedColour.{NamedColour}
use Rattle.ase_read.specs.declared.Record.{Record}
use Rattle.ase_read.specs.declared.Record.TheVariants as vr

-- a colour as its row gives it
abbrev pub shown_colour : NamedColour → RecordRow
shown_colour c = colour_row c.place c.units (traits_of (model_in c.colour)).tag (bits_of c.colour) (ink_number c.ink)

-- a record as its row gives it
abbrev pub shown : Record → RecordRow
shown (vr.GroupStart p u) = group_start_row p u
shown vr.GroupEnd = group_end_row
shown (vr.Colour c) = shown_colour c

-- the same, or a refusal's number and place
abbrev pub told_record : Result Record Refusal → Verdict RecordRow
told_record (Ok r) = accepted (shown r)
told_record (Err e) = refused (number_of e.0) e.1 0 0
