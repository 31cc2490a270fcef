use Rattle.descriptor.specs.Reading.{ref_item}
use Rattle.descriptor_judge.proofs.Counting.{Going}
use Rattle.descriptor_judge.proofs.reference.Given as goal

abbrev pub invariant-loop-i : goal.invariant-loop-i
invariant-loop-i l = Going (ref_item l.left 0) l.file l.n l.from l.next l._i l._i
