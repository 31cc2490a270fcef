use Prim.Native.Nat.{◌+◌, ◌-◌, ◌*◌}
use lib.ListN.{length}
use Rattle.descriptor_heads.specs.Heads.{file_heads}
use Rattle.descriptor_read.specs.scaffold.Extents.{extent_in}
use Rattle.descriptor_read.proofs.Extents as E
use Rattle.descriptor_read.proofs.extent_in.Given as goal

abbrev pub invariant-loop-left : goal.invariant-loop-left
invariant-loop-left l =
    E.Loop l.file l.row (extent_in l.row (file_heads l.file)) l.saved l.d (E.due l.what l.objects l.left) l.met l.k l.at

abbrev pub decreases-loop-left : goal.decreases-loop-left
decreases-loop-left l =
    2 * (length l.file - l.at) + l.d
