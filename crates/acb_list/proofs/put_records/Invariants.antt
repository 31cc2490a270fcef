use Prim.Native.Nat.{◌-◌, ◌≤◌}
use mathlib.Core.Path.{◌≡◌}
use lib.ListN.{length}
use Rattle.acb.specs.Reading.{components_of}
use Rattle.acb_read.specs.Walked.{walked}
use Rattle.listing.specs.Buffer.{put_all}
use Rattle.listing.specs.Text.{lines}
use Rattle.acb_list.specs.scaffold.Parts.{given_line}
use Rattle.acb_list.proofs.put_records.Given as goal

abbrev pub invariant-loop-i : goal.invariant-loop-i
invariant-loop-i l = (l.i ≤ l.count) × (length l.out ≡ length l.initial.out) × (put_all (l.initial.out, l.n) (lines (given_line l.file (components_of l.space)) 0 (walked l.space l.file l.first l.count)) ≡ put_all (l.out, l.at) (lines (given_line l.file (components_of l.space)) l.i (walked l.space l.file l.p (l.count - l.i))))
