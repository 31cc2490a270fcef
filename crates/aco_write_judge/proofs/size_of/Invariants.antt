use Prim.Native.Nat.{◌+◌, ◌-◌, ◌≤◌}
use mathlib.Core.Path.{◌≡◌}
use Rattle.algebra.specs.Table.{rows}
use Rattle.aco.specs.Row.{width, taken}
use Rattle.aco_writing.specs.Writing.{sizes}
use Rattle.aco_write_judge.proofs.size_of.Given as goal

abbrev pub invariant-loop-i : goal.invariant-loop-i
invariant-loop-i l = (l.i ≤ l.n) × (l.total ≤ 16777216) × (l.total + sizes (rows width taken l.run (l.n - l.i) l.i) ≡ 8 + sizes (rows width taken l.run l.n 0))
