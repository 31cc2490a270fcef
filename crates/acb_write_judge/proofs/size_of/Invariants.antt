use Rattle.acb_write_judge.proofs.Judging.{toned}
use mathlib.Core.Path.{◌≡◌}
use Prim.Native.Nat.{◌+◌, ◌-◌, ◌≤◌}
use Rattle.acb_writing.specs.Writing.{sizes}
use Rattle.algebra.specs.Table.{rows}
use Rattle.acb.specs.Row.{width, taken}
use Rattle.acb_write_judge.proofs.size_of.Given as goal

abbrev pub invariant-loop-i : goal.invariant-loop-i
invariant-loop-i l = (l.i ≤ l.n) × (l.total ≤ 16777216) × (l.total + sizes (toned l.behind_name) (rows width taken l.run (l.n - l.i) l.i) ≡ l.initial.total + sizes (toned l.behind_name) (rows width taken l.run l.n 0))
