use Rattle.std.proofs.Common.{◌≡◌, length}
use Rattle.acb_order.specs.scaffold.Places.{record_place}
use Rattle.acb_index.specs.scaffold.Drawn.{Tabled}
use Rattle.acb_index.proofs.tabulate.Given as goal

abbrev pub invariant-loop-i : goal.invariant-loop-i
invariant-loop-i l = (l.at ≡ record_place l.book.components l.book.file.now l.book.first l.i) × Tabled l.book.file.now l.book.components l.book.first l.i l.table × (length l.table ≡ 8192)
