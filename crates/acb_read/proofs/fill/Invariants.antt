use Prim.Native.Nat.{◌-◌, ◌*◌, ◌≤◌}
use mathlib.Core.Path.{◌≡◌}
use mathlib.Core.List.{map}
use lib.ListN.{length}
use lib.Seq.{sets}
use Rattle.algebra.specs.Numbers.{joined}
use Rattle.colour.specs.Inks.{ink_number}
use Rattle.acb.specs.Row.{width, numbers, tag_ink, stated}
use Rattle.acb_judge.specs.Answer.{told_tag}
use Rattle.acb_read.specs.Walked.{walked}
use Rattle.acb_read.proofs.fill.Given as goal

abbrev pub invariant-loop-i : goal.invariant-loop-i
invariant-loop-i l = (l.i ≤ l.book.count) × (sets l.initial.table 0 (joined numbers (map (stated (ink_number (tag_ink (told_tag l.book.tag)))) (walked l.book.header.space l.file l.book.first l.book.count))) ≡ sets l.table (width * l.i) (joined numbers (map (stated (ink_number (tag_ink (told_tag l.book.tag)))) (walked l.book.header.space l.file l.at (l.book.count - l.i))))) × (length l.table ≡ length l.initial.table)
