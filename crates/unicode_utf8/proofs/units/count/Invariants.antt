use Prim.Native.Nat.{◌-◌}
use Rattle.unicode_utf8.proofs.Loops.{Counting}
use Rattle.unicode_utf8.proofs.units.count.Given as goal

abbrev pub invariant-loop-i : goal.invariant-loop-i
invariant-loop-i g l = Counting (g.U.Units.units l.units) l.n l.i

abbrev pub decreases-loop-i : goal.decreases-loop-i
decreases-loop-i g l = l.end - l.i
