use Prim.Native.Nat.{◌+◌, ◌*◌, ◌-◌}
use Rattle.descriptor_build_judge.proofs.Turns as W
use Rattle.descriptor_entry_judge.specs.Judging.{told_fault}
use Rattle.descriptor_build_judge.proofs.judge_members.Given as goal

abbrev pub invariant-loop-left : goal.invariant-loop-left
invariant-loop-left l =
    W.Loop l.text l.entries l.n l.saved l.d (W.due l.what l.objects l.left) l.total (told_fault l.sound) l.k

abbrev pub decreases-loop-left : goal.decreases-loop-left
decreases-loop-left l =
    2 * (l.n - l.k) + l.d
