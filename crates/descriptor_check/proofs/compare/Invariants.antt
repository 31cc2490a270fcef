use Rattle.descriptor_check.proofs.Turns.{Comparing}
use Rattle.descriptor_columns.proofs.Levels.{level}
use Rattle.descriptor_columns.specs.scaffold.Filling.{rest}
use lib.ListN.{length}
use Prim.Native.Nat.{◌+◌, ◌-◌, ◌*◌}
use Rattle.descriptor_check.proofs.compare.Given as goal

abbrev pub invariant-loop-left : goal.invariant-loop-left
invariant-loop-left l =
    Comparing l.file l.rows (rest l.file l.due l.arity l.count l.start) l.first l.size l.next l.depth l.kind l.saved l.d (level l.what l.objects l.left l.row l.from) l.k l.at

abbrev pub decreases-loop-left : goal.decreases-loop-left
decreases-loop-left l =
    2 * (length l.file - l.at) + l.d
