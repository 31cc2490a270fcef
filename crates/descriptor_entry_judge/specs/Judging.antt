-- What is found of one entry's head.
use Rattle.std.specs.Prelude.{ℕ, ◌≤◌, ◌<◌, ◌≡◌, List, Result, Ok, Err}
use Rattle.algebra.specs.Reader.{limit}
use Rattle.fault.specs.Fault.{number_of}
use Rattle.fault.specs.declared.Fault.{Fault}
use Rattle.descriptor_heads.specs.Heads.{Opened}
use Rattle.descriptor_raw.specs.Raw.{due_of}
use Rattle.descriptor_entry.specs.Pieces.{Piece, size, fault}
use Rattle.descriptor_entry_judge.specs.declared.Judged.{Judged}

-- the number of a fault, 0 for none
abbrev pub told_fault : Result Unit Fault → ℕ
told_fault (Ok u) = 0
told_fault (Err f) = number_of f

-- what was found of a head of these pieces, which asks for o: its fault only where it is within the limit
pub record Judges (text : List ℕ) (ps : List Piece) (o : Opened) (r : Judged) : Type 0 where
  pub size_is : r.size ≡ size ps
  pub small : r.size < 549755813888
  pub fault_is : r.size ≤ limit → told_fault r.sound ≡ fault text ps
  pub below_is : due_of r.what r.objects ≡ o.below
  pub count_is : r.count ≡ o.count
