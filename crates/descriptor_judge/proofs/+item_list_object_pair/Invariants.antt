use Rattle.std.proofs.Common.{◌-◌, ◌+◌, length}
use Rattle.descriptor_judge.specs.scaffold.Cycle.{member_of}
use Rattle.descriptor_judge.proofs.Counting.{Going}
use Rattle.descriptor_judge.proofs.+item_list_object_pair.Given as goal

abbrev pub decreases-item : goal.decreases-item
decreases-item l = length l.file.now - l.at

abbrev pub decreases-list : goal.decreases-list
decreases-list l = length l.file.now - l.at

abbrev pub decreases-unkeyed : goal.decreases-unkeyed
decreases-unkeyed l = length l.file.now - l.at + 1

abbrev pub decreases-object : goal.decreases-object
decreases-object l = length l.file.now - l.at + 1

abbrev pub decreases-pair : goal.decreases-pair
decreases-pair l = length l.file.now - l.at + 1

abbrev pub invariant-list-loop-i : goal.invariant-list-loop-i
invariant-list-loop-i l = Going (member_of l.keyed l.left 0) l.file l.n l.from l.next l.rows l._i
