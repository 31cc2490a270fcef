use Prim.Native.Nat.{◌+◌, ◌-◌, ◌*◌}
use lib.ListN.{length}
use Rattle.descriptor_columns.specs.scaffold.Filling.{rest}
use Rattle.descriptor_columns.proofs.Valued as W
use Rattle.descriptor_columns.proofs.fill_values.Given as goal

abbrev pub invariant-loop-left : goal.invariant-loop-left
invariant-loop-left l =
    W.Loop l.file l.rows (rest l.file l.due l.arity l.count l.start) l.initial.values l.values l.saved l.d (W.due l.what l.objects l.left) l.k l.at

abbrev pub decreases-loop-left : goal.decreases-loop-left
decreases-loop-left l =
    2 * (length l.file - l.at) + l.d
