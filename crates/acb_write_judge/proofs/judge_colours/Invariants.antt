use mathlib.Core.Path.{◌≡◌}
use Prim.Native.Nat.{◌-◌, ◌≤◌}
use Rattle.algebra.specs.Faults.{faults}
use Rattle.acb_writing.specs.Writing.{colour_fault}
use Rattle.algebra.specs.Table.{rows}
use Rattle.acb.specs.Row.{width, taken}
use Rattle.acb_write_judge.proofs.judge_colours.Given as goal

abbrev pub invariant-loop-i : goal.invariant-loop-i
invariant-loop-i l = (l.i ≤ l.count) × (faults (colour_fault l.text l.n) (rows width taken l.run l.count 0) ≡ faults (colour_fault l.text l.n) (rows width taken l.run (l.count - l.i) l.i))
