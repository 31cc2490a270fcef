use Rattle.std.proofs.Common.{◌≡◌, ◌≤◌}
use Rattle.acb_order.specs.scaffold.Places.{record_place}
use Rattle.acb_find.proofs.Guide.place_of.Given as goal

abbrev pub invariant-loop-k : goal.invariant-loop-k
invariant-loop-k l = (l._k ≤ l.n) × (l.at ≡ record_place l.self.book.components l.self.book.file.now l.self.book.first l._k)
