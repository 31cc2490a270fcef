use Prim.Native.Nat.{◌-◌, ◌%◌, ◌≤◌}
use lib.ListN.{length}
use mathlib.Core.Path.{◌≡◌}
use Rattle.algebra.specs.Table.{verdict}
use Rattle.resource.specs.Reading.{blocks}
use Rattle.resource_judge.proofs.Judging.{counting}
use Rattle.resource_judge.proofs.blocks_in.Given as goal

abbrev pub invariant-loop-at : goal.invariant-loop-at
invariant-loop-at l = (l.at ≤ length l.file) × (l.n ≤ l.at) × (l.at % 2 ≡ 0) × (verdict length (blocks l.file 0) ≡ counting l.file l.n l.at)

abbrev pub decreases-loop-at : goal.decreases-loop-at
decreases-loop-at l = length l.file - l.at
