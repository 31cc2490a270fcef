use mathlib.Core.Path.{sym, ◌∙◌}
use native.Mathlib.Omega.{arith}
use Rattle.report.proofs.Counting.{count-start, count-end, colours-low, count_turn}
use Rattle.report.proofs.count_colours.Goals as goal

pub loop-i-init : goal.loop-i-init
loop-i-init c =
    let a = c.args in
    count-start a.kind a.file.now a.n a.totals.now _ c.view_of-view.ensures c.requires.0 c.requires.1 c.first_at-p.ensures

pub tally_two-requires : goal.tally_two-requires
tally_two-requires c =
    let a = c.args in
    colours-low _ a.file.now (λ k. omega (arith, c.type_inv.file k)) a.n a.totals.now c.loop-i.totals c.loop-i.p c.loop-i._i c.loop-i.invariant c.loop-i-test.true

pub loop-i-preserved : goal.loop-i-preserved
loop-i-preserved c =
    let a = c.args in
    count_turn _ a.file.now (λ k. omega (arith, c.type_inv.file k)) a.n a.totals.now c.loop-i.totals c.loop-i.p c.loop-i._i c.loop-i.invariant c.loop-i-test.true
    c.step_at-x.result c.tag_place-place.result c.units_place.result _ c.step_at-x.ensures c.tag_place-place.ensures c.units_place.ensures c.tally_two.ensures

pub shape_of-totals : goal.shape_of-totals
shape_of-totals c = c.loop-i.invariant.low.long ∙ sym c.requires.1.long

pub returns : goal.returns
returns c =
    let a = c.args in
    count-end a.kind a.file.now a.n a.totals.now _ c.loop-i.totals c.loop-i.p c.loop-i._i c.view_of-view.ensures c.loop-i-test.false c.loop-i.invariant
