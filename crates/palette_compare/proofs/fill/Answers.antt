use mathlib.Core.Path.{◌∙◌}
use native.Mathlib.Omega.{arith}
use Rattle.palette_compare.proofs.Laws.{first-longer, second-longer}
use Rattle.palette_compare.proofs.Whole.{many, many-few, both-accepted}
use Rattle.palette_compare.proofs.fill.Goals as goal

pub fill_to-requires : goal.fill_to-requires
fill_to-requires c =
    let a = c.args in
    first-longer a.one a.first.now a.other a.second.now a.n a.m (many a.one a.first.now c.requires.0) (many a.other a.second.now c.requires.1) c.if-m-n.true (many-few a.one a.first.now (λ k. omega (arith, c.type_inv.first k)) c.requires.0)

pub returns-then-m-n : goal.returns-then-m-n
returns-then-m-n c =
    let a = c.args in
    (c.fill_to.ensures.0 ∙ both-accepted a.one a.first.now a.other a.second.now a.table.now c.requires.0 c.requires.1, c.fill_to.ensures.1)

pub fill_to-requires-2 : goal.fill_to-requires-2
fill_to-requires-2 c =
    let a = c.args in
    second-longer a.one a.first.now a.other a.second.now a.n a.m (many a.one a.first.now c.requires.0) (many a.other a.second.now c.requires.1) c.if-m-n.false (many-few a.other a.second.now (λ k. omega (arith, c.type_inv.second k)) c.requires.1)

pub returns : goal.returns
returns c =
    let a = c.args in
    (c.fill_to-2.ensures.0 ∙ both-accepted a.one a.first.now a.other a.second.now a.table.now c.requires.0 c.requires.1, c.fill_to-2.ensures.1)
