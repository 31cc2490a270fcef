-- Scaffolding: the form in which the code goes; cited by private contracts and by proofs.
use Rattle.std.specs.Prelude.{ℕ, ◌+◌, ◌≤◌, ◌<◌, ◌≡◌, List, Result, Ok, Err}
use Rattle.fault.specs.Fault.{number_of}
use Rattle.fault.specs.declared.Fault.{Fault}
use Rattle.algebra.specs.Reader.{limit}
use Rattle.algebra.specs.Faults.{faults}
use Rattle.resource.specs.declared.Record.{Record}
use Rattle.resource_writing.specs.Writing.{size_within, sizes, record_fault}

-- what is judged of a part or a record: its fault's number, 0 where it has none
abbrev pub told_judged : Result Unit Fault → ℕ
told_judged (Ok u) = 0
told_judged (Err f) = number_of f

-- lengths of 32 bits, as a run has them
abbrev pub Counted : Record → Type 0
Counted r = (r.letters < 4294967296) × (r.size < 4294967296)

-- what storing asks: room from `at`, and no fault
pub record RecordFits (text : List ℕ) (r : Record) (at room : ℕ) : Type 0 where
  pub inside : at + size_within r ≤ room
  pub short : size_within r ≤ limit
  pub sound : record_fault text r ≡ 0

pub record RecordsFit (text : List ℕ) (rs : List Record) (at room : ℕ) : Type 0 where
  pub inside : at + sizes rs ≤ room
  pub short : sizes rs ≤ limit
  pub sound : faults (record_fault text) rs ≡ 0
