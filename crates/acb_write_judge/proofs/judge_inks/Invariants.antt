use Prim.Native.Nat.{◌-◌, ◌≤◌}
use mathlib.Core.Path.{◌≡◌}
use Rattle.algebra.specs.Faults.{faults}
use Rattle.algebra.specs.Table.{rows}
use Rattle.acb.specs.Row.{width, taken}
use Rattle.acb_writing.specs.Writing.{unless_ink}
use Rattle.acb_write_judge.proofs.judge_inks.Given as goal

abbrev pub invariant-loop-i : goal.invariant-loop-i
invariant-loop-i l = (l.i ≤ l.n) × (faults (unless_ink l.ink) (rows width taken l.run l.n 0) ≡ faults (unless_ink l.ink) (rows width taken l.run (l.n - l.i) l.i))
