use mathlib.Core.Path.{◌≡◌}
use Rattle.algebra.specs.Table.{rows}
use Rattle.ase.specs.Row.{width, taken}
use Rattle.ase_writing.specs.Writing.{sizes}
use Prim.Native.Nat.{◌+◌, ◌-◌, ◌≤◌}
use Rattle.ase_write_judge.proofs.size_of.Given as goal

abbrev pub invariant-loop-i : goal.invariant-loop-i
invariant-loop-i l = (l.i ≤ l.n) × (l.total ≤ 16777216) × (l.total + sizes (rows width taken l.run (l.n - l.i) l.i) ≡ 12 + sizes (rows width taken l.run l.n 0))
