use Prim.Native.Nat.{◌≤◌}
use mathlib.Core.Path.{◌≡◌}
use mathlib.Core.List.{List}
use lib.ListN.{length, drop}
use Rattle.descriptor.specs.Reading.{Row}
use Rattle.listing.specs.Buffer.{put_all}
use Rattle.listing.specs.Text.{lines}
use Rattle.descriptor_list.specs.scaffold.Held.{Held}
use Rattle.descriptor_list.specs.Listing.{line}
use Rattle.descriptor_list.proofs.put_rows.Given as goal

abbrev pub invariant-loop-i : goal.invariant-loop-i
invariant-loop-i l = (l.i ≤ l.rows) × (length l.out ≡ length l.initial.out) × ((rs : List Row) → Held rs l.first l.size l.depth l.kind l.parent l.rows → put_all (l.initial.out, l.n) (lines line 0 rs) ≡ put_all (l.out, l.at) (lines line l.i (drop l.i rs)))
