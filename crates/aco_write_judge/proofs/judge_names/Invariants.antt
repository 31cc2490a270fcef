use Prim.Native.Nat.{◌-◌, ◌≤◌}
use mathlib.Core.Path.{◌≡◌}
use Rattle.algebra.specs.Faults.{faults}
use Rattle.algebra.specs.Table.{rows}
use Rattle.aco.specs.Row.{width, taken}
use Rattle.aco_write_judge.specs.scaffold.Parts.{name_fault}
use Rattle.aco_write_judge.proofs.judge_names.Given as goal

abbrev pub invariant-loop-i : goal.invariant-loop-i
invariant-loop-i l = (l.i ≤ l.n) × (faults (name_fault l.text) (rows width taken l.run l.n 0) ≡ faults (name_fault l.text) (rows width taken l.run (l.n - l.i) l.i))
