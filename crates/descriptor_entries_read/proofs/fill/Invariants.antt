use Prim.Native.Nat.{◌+◌, ◌-◌, ◌*◌}
use lib.ListN.{length}
use lib.Seq.{sets}
use Rattle.descriptor_entries.specs.Answered.{numbers}
use Rattle.descriptor_entries_read.specs.scaffold.Filling.{rest}
use Rattle.descriptor_entries_read.proofs.Turns as W
use Rattle.descriptor_entries_read.proofs.fill.Given as goal

abbrev pub invariant-loop-left : goal.invariant-loop-left
invariant-loop-left l =
    W.Loop l.file l.rows (sets l.initial.run 16 (numbers (rest l.file l.due l.arity l.count l.start))) l.initial.run l.run l.saved l.d (W.due l.what l.objects l.left) l.k l.at

abbrev pub decreases-loop-left : goal.decreases-loop-left
decreases-loop-left l =
    2 * (length l.file - l.at) + l.d
