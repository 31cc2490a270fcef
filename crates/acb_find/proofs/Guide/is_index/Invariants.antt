use Rattle.acb_find.proofs.Checking.{SoFar}
use Rattle.acb_find.proofs.Guide.is_index.Given as goal

abbrev pub invariant-loop-k : goal.invariant-loop-k
invariant-loop-k l = SoFar l.self.book.file.now l.self.book.components l.self.book.first l.index l.k l.last
