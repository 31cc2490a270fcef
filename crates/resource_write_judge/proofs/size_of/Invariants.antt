use mathlib.Core.Path.{◌≡◌}
use Rattle.resource_writing.specs.Writing.{sizes}
use Rattle.resource_write_judge.specs.scaffold.Writing.{givens}
use Prim.Native.Nat.{◌+◌, ◌-◌, ◌≤◌}
use Rattle.resource_write_judge.proofs.size_of.Given as goal

abbrev pub invariant-loop-i : goal.invariant-loop-i
invariant-loop-i l = (l.i ≤ l.n) × (l.total ≤ 16777216) × (l.total + sizes (givens l.run (l.n - l.i) l.i) ≡ sizes (givens l.run l.n 0))
