use Rattle.report.specs.scaffold.Parts.{Adding}
use Rattle.report.proofs.add_all.Given as goal

abbrev pub invariant-loop-i : goal.invariant-loop-i
invariant-loop-i l = Adding l.initial.totals l.more l.totals l.i
