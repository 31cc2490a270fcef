use Rattle.palette_compare.specs.scaffold.Parts.{Both}
use Rattle.palette_compare.proofs.fill_both.Given as goal

abbrev pub invariant-loop-i : goal.invariant-loop-i
invariant-loop-i l = Both l.seen l.beside l.first l.second l.n l.initial.table l.table l.p l.q l.differences l.i
