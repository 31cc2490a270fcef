use Prim.Native.Nat.{◌-◌, ◌≤◌}
use mathlib.Core.Path.{◌≡◌}
use Rattle.algebra.specs.Faults.{faults}
use Rattle.algebra.specs.Table.{rows}
use Rattle.aco.specs.Row.{width, taken}
use Rattle.aco_writing.specs.Writing.{ink_fault}
use Rattle.aco_write_judge.proofs.judge_inks.Given as goal

abbrev pub invariant-loop-i : goal.invariant-loop-i
invariant-loop-i l = (l.i ≤ l.n) × (faults ink_fault (rows width taken l.run l.n 0) ≡ faults ink_fault (rows width taken l.run (l.n - l.i) l.i))
