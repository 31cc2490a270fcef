use mathlib.Core.Path.{◌≡◌}
use Rattle.resource_writing.specs.Writing.{record_fault}
use Rattle.resource_write_judge.specs.scaffold.Writing.{givens}
use Prim.Native.Nat.{◌-◌, ◌≤◌}
use Rattle.algebra.specs.Faults.{faults}
use Rattle.resource_write_judge.proofs.judge_records.Given as goal

abbrev pub invariant-loop-i : goal.invariant-loop-i
invariant-loop-i l = (l.i ≤ l.n) × (faults (record_fault l.text) (givens l.run l.n 0) ≡ faults (record_fault l.text) (givens l.run (l.n - l.i) l.i))
