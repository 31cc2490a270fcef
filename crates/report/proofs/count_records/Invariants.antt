use Rattle.report.specs.scaffold.Parts.{Shelved}
use Rattle.report.proofs.count_records.Given as goal

abbrev pub invariant-loop-i : goal.invariant-loop-i
invariant-loop-i l = Shelved l.space l.file l.n l.first l.initial.totals l.totals l.p l._i
