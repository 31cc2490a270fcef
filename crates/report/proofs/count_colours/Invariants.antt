use Rattle.report.specs.scaffold.Parts.{Counting}
use Rattle.report.proofs.count_colours.Given as goal

abbrev pub invariant-loop-i : goal.invariant-loop-i
invariant-loop-i l = Counting l.view l.file l.n l.initial.totals l.totals l.p l._i
