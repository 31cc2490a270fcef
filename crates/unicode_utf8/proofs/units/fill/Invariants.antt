use Prim.Native.Nat.{◌-◌}
use Rattle.unicode_utf8.proofs.Loops.{Filling}
use Rattle.unicode_utf8.proofs.units.fill.Given as goal

abbrev pub invariant-loop-i : goal.invariant-loop-i
invariant-loop-i g l = Filling (g.U.Units.units l.units) l.initial.out l.out l.n l.i

abbrev pub decreases-loop-i : goal.decreases-loop-i
decreases-loop-i g l = l.end - l.i
