use Rattle.descriptor.specs.Reading.{array_pair}
use Rattle.descriptor_judge.proofs.Counting.{Going}
use Rattle.descriptor_judge.proofs.array_pairs.Given as goal

abbrev pub invariant-loop-i : goal.invariant-loop-i
invariant-loop-i l = Going (array_pair l.objects l.left 0) l.file l.n l.from l.next l._i l._i
