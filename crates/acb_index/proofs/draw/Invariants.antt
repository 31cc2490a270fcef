use Rattle.std.proofs.Common.{◌≡◌, ◌+◌, length}
use lib.ListN.{drop}
use Rattle.acb_order.specs.Index.{shown_from}
use Rattle.acb_order.specs.scaffold.Places.{record_place, names_in}
use Rattle.acb_index.specs.scaffold.Drawn.{Drawing}
use Rattle.acb_index.proofs.draw.Given as goal

abbrev pub invariant-loop-i : goal.invariant-loop-i
invariant-loop-i l = (l.at ≡ record_place l.book.components l.book.file.now l.book.first l.i) × (length l.run ≡ length l.initial.run) × (l.k + length (shown_from l.i (drop l.i (names_in l.book.file.now))) ≡ length (shown_from 0 (names_in l.book.file.now))) × Drawing l.book.file.now l.book.components l.book.first l.i l.k l.run
