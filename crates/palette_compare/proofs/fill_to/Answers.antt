use native.Mathlib.Omega.{arith}
use Rattle.palette_compare.specs.Answer.{told_kind}
use Rattle.palette_compare.specs.scaffold.Parts.{kinds_in}
use Rattle.palette_compare.proofs.Laws.{differences-below, filled-short, filled_is}
use Rattle.palette_compare.proofs.fill_to.Goals as goal

pub returns-then-table-longer : goal.returns-then-table-longer
returns-then-table-longer c =
    let a = c.args in
    (filled-short (kinds_in a.one a.first.now a.other a.second.now) a.table.now a.longer c.requires.long (omega (arith, c.if-table-longer.true)), tt)

pub overflow_add-result : goal.overflow_add-result
overflow_add-result c =
    let a = c.args in
    omega (arith, differences-below (kinds_in a.one a.first.now a.other a.second.now), c.requires.long, c.requires.few, c.fill_both-both.ensures.counted)

pub returns : goal.returns
returns c =
    let a = c.args in
    (filled_is a.one a.first.now a.other a.second.now a.shorter a.longer (told_kind a.rest) a.table.now _ _ c.fill_both-both.result c.requires (omega (arith, c.if-table-longer.false)) c.fill_both-both.ensures c.fill_rest.ensures, tt)
