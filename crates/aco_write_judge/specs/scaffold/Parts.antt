-- Scaffolding: the form in which the code goes; cited by private contracts and by proofs.
-- A record as the code has it, and what the stores of a record take of it.
use Rattle.std.specs.Prelude.{ℕ, ◌+◌, ◌*◌, ◌%◌, ◌≤◌, ◌≡◌, List, [], Result, Ok, Err, map, eqb, length}
use Rattle.algebra.specs.Reader.{pick, limit}
use Rattle.algebra.specs.Faults.{faults}
use Rattle.fault.specs.Fault.{number_of}
use Rattle.fault.specs.declared.Fault.{Fault}
use Rattle.colour.specs.declared.space.Colour.{Colour}
use Rattle.aco.specs.Grammar.{Swatch}
use Rattle.aco.specs.Faults.{fields_fault}
use Rattle.aco.specs.Faults as f
use Rattle.aco.specs.Row.{RecordRow}
use Rattle.aco_write_judge.specs.declared.Record.{Record}
use Rattle.aco_writing.specs.Writing.{swatch_in, sizes, found_in}

abbrev pub told_record : Record → RecordRow
told_record r = record { space = r.space; samples = r.samples; first = r.first; units = r.units; ink = r.ink }

-- a fault's number, 0 for none
abbrev pub told_fault : Result Unit Fault → ℕ
told_fault (Ok u) = 0
told_fault (Err x) = number_of x

-- the faults of a record's colour and of its name
abbrev pub colour_fault : RecordRow → ℕ
colour_fault g = fields_fault g.space g.samples

abbrev pub name_fault : List ℕ → RecordRow → ℕ
name_fault names g = f.name_fault (found_in names g) (swatch_in names g).name

-- its colour, each number cut to its field
abbrev pub colour_in : RecordRow → Colour
colour_in g = record { space = g.space % 65536; samples = map (λ v. v % 65536) g.samples }

-- a colour as a swatch with no name
abbrev pub plain : Colour → Swatch
plain c = record { space = c.space; samples = c.samples; name = [] }

-- where its name begins; 0 for a name of no units, whose place may be any
abbrev pub start : RecordRow → ℕ
start g = pick (eqb g.units 0) 0 g.first

-- a record from `at`: room for it, a count of 32 bits, and a name without a fault
pub record EntryFits (names : List ℕ) (g : RecordRow) (at room : ℕ) : Type 0 where
  pub inside : at + (16 + 2 * g.units) ≤ room
  pub short : 2 * g.units ≤ limit
  pub name : name_fault names g ≡ 0

-- the same of some records, whose ten bytes of list 1 are not stored here
pub record EntriesFit (names : List ℕ) (gs : List RecordRow) (at room : ℕ) : Type 0 where
  pub inside : at + sizes gs ≤ room + 10 * length gs
  pub short : sizes gs ≤ limit
  pub name : faults (name_fault names) gs ≡ 0
