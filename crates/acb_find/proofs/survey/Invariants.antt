use Rattle.std.proofs.Common.{◌≡◌, ◌+◌, ◌≤◌, length}
use lib.ListN.{drop}
use Rattle.acb_order.specs.Index.{shown_from}
use Rattle.acb_order.specs.scaffold.Places.{record_place, names_in}
use Rattle.acb_find.proofs.Checking.{Marking}
use Rattle.acb_find.proofs.survey.Given as goal

abbrev pub invariant-loop-i : goal.invariant-loop-i
invariant-loop-i l = (l.at ≡ record_place l.book.components l.book.file.now l.book.first l._i) × (l.shown ≤ l._i) × (l.shown + length (shown_from l._i (drop l._i (names_in l.book.file.now))) ≡ length (shown_from 0 (names_in l.book.file.now))) × Marking l.book.file.now l.book.components l.book.first l.d l._i l.j l.due l.marks
