-- Scaffolding: the form in which the code goes; cited by private contracts and by proofs.
-- What the parts of judging and storing a record take of it.
use Rattle.std.specs.Prelude.{ℕ, ◌+◌, ◌-◌, ◌≤◌, ◌≡◌, List, ◌++◌, Result, Ok, Err, ltb, eqb, take}
use Rattle.std.specs.Float.{binary32}
use Rattle.std.specs.Float.Ieee.{of_bits}
use Rattle.algebra.specs.Numbers.{be, joined}
use Rattle.algebra.specs.Reader.{pick, limit}
use Rattle.algebra.specs.Faults.{faults, faults_from}
use Rattle.colour.specs.Models.{traits_of}
use Rattle.colour.specs.Channels.{allows}
use Rattle.colour.specs.declared.model.Model.{Model}
use Rattle.fault.specs.Fault.{number_of}
use Rattle.fault.specs.declared.Fault.{Fault}
use Rattle.ase.specs.Reading.{deepest, open_after}
use Rattle.ase.specs.Faults as f
use Rattle.ase.specs.Row.{RecordRow}
use Rattle.ase_writing.specs.Writing.{units_within, channels_in, block_by_row, size_within, sizes, found_in, block_fault}

-- a fault's number, 0 for none
abbrev pub told_fault : Result Unit Fault → ℕ
told_fault (Ok u) = 0
told_fault (Err f) = number_of f

-- the fault of a block's type, where d groups stand open
abbrev pub type_fault : ℕ → ℕ → ℕ
type_fault d t = pick (eqb t 0xC001) (pick (ltb d deepest) 0 10) (pick (eqb t 0xC002) (pick (ltb 0 d) 0 9) (pick (eqb t 0x0001) 0 4))

-- the fault of a record's name
abbrev pub name_fault : List ℕ → RecordRow → ℕ
name_fault names g = f.name_fault (found_in names g) (units_within names g)

-- how many groups stand open after a record
abbrev pub standing_in : List ℕ → ℕ → RecordRow → ℕ
standing_in names d g = open_after d (block_by_row names g)

-- the same by the type of its block
abbrev pub open_after_type : ℕ → ℕ → ℕ
open_after_type d t = pick (eqb t 0xC001) (d + 1) (pick (eqb t 0xC002) (d - 1) d)

-- the channels that a model has
unfoldable pub channels_fault : Model → List ℕ → ℕ
channels_fault m bs = faults_from (λ i b. pick (allows m (of_bits binary32 b)) 0 5) 0 (take (traits_of m).channels bs)

-- a colour apart from its name
abbrev pub after_name_fault : RecordRow → ℕ
after_name_fault g = f.colour_fault g.model (channels_in g) g.ink

-- where a name begins; 0 for a name of no units, whose place may be any
abbrev pub start : RecordRow → ℕ
start g = pick (eqb g.units 0) 0 g.first

-- the fault apart from the nesting: where one group stands open, another may begin and that one may end
abbrev pub own_fault : List ℕ → RecordRow → ℕ
own_fault names g = block_fault names 1 g

-- the fields of a colour behind its name
abbrev pub after_name_bytes : RecordRow → List ℕ
after_name_bytes g = be 4 g.model ++ (joined (be 4) (channels_in g) ++ be 2 g.ink)

-- what storing a record from `at` asks: room for it, a length of 32 bits, and no fault of its own
pub record RecordFits (names : List ℕ) (g : RecordRow) (at room : ℕ) : Type 0 where
  pub inside : at + size_within g ≤ room
  pub short : size_within g ≤ limit
  pub sound : own_fault names g ≡ 0

-- the same of some records
pub record RecordsFit (names : List ℕ) (gs : List RecordRow) (at room : ℕ) : Type 0 where
  pub inside : at + sizes gs ≤ room
  pub short : sizes gs ≤ limit
  pub sound : faults (own_fault names) gs ≡ 0
