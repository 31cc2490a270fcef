use Prim.Native.Nat.{◌+◌, ◌-◌, ◌≤◌, ◌<◌}
use mathlib.Core.Path.{◌≡◌}
use lib.ListN.{length, take}
use Rattle.algebra.specs.Reader.{limit}
use Rattle.aco_chunks.specs.Chunks.{size, chunk}
use Rattle.aco_pass.specs.scaffold.Parts.{Rest}
use Rattle.aco_pass.proofs.Turns.{G}
use Rattle.aco_stream.proofs.feed_within.Given as goal

abbrev pub invariant-loop-at : goal.invariant-loop-at
invariant-loop-at l =
    (l.at ≤ l.end) × (l.end ≡ length l.bytes) × (l.start + length l.bytes ≤ limit) × (l.got < size l.stage) × (length l.store ≡ length l.initial.store) × (length l.carry ≡ 16) × (chunk (G l.initial.stage l.start (take l.initial.got l.initial.carry) l.initial.store) l.bytes ≡ Rest l.stage (l.start + l.at) (take l.got l.carry) l.store l.at l.bytes)

abbrev pub decreases-loop-at : goal.decreases-loop-at
decreases-loop-at l = l.end - l.at
