use Rattle.acb_index.specs.scaffold.Drawn.{Numbered}
use Rattle.acb_index.proofs.number.Given as goal

abbrev pub invariant-loop-k : goal.invariant-loop-k
invariant-loop-k l = Numbered l.book.file.now l.book.components l.book.first l.book.count l.k l.initial.run l.run
