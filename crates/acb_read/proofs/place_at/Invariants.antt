use Prim.Native.Nat.{◌-◌, ◌≤◌}
use mathlib.Core.Path.{◌≡◌}
use Rattle.acb_read.specs.Walked.{passed}
use Rattle.acb_read.proofs.place_at.Given as goal

abbrev pub invariant-loop-k : goal.invariant-loop-k
invariant-loop-k l = (l._k ≤ l.i) × (passed l.space l.file l.at l.i ≡ passed l.space l.file l.p (l.i - l._k))
