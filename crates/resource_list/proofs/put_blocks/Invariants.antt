use Prim.Native.Nat.{◌+◌}
use lib.ListN.{length}
use mathlib.Core.Path.{◌≡◌}
use Rattle.resource_read.specs.scaffold.Parts.{rest, Sound}
use Rattle.listing.specs.Buffer.{put_all}
use Rattle.listing.specs.Text.{lines}
use Rattle.resource_list.specs.Listing.{line}
use Rattle.resource_list.proofs.put_blocks.Given as goal

abbrev pub invariant-loop-i : goal.invariant-loop-i
invariant-loop-i l = Sound l.section l.at × (l.i + length (rest l.section l.at) ≡ l.blocks) × (length l.out ≡ length l.initial.out) × (put_all (l.initial.out, l.n) (lines (line l.first) 0 (rest l.section 0)) ≡ put_all (l.out, l.full) (lines (line l.first) l.i (rest l.section l.at)))
