use mathlib.Core.Path.{sym, ◌∙◌}
use Rattle.report.proofs.Counting.{shelf-start, shelf-end, shelf-low, shelf-turn}
use Rattle.report.proofs.count_records.Goals as goal

pub loop-i-init : goal.loop-i-init
loop-i-init c =
    let a = c.args in
    shelf-start a.space a.file.now a.n a.first a.totals.now c.requires.1

pub tally_record-requires : goal.tally_record-requires
tally_record-requires c =
    let a = c.args in
    shelf-low a.space a.file.now a.n a.first a.totals.now c.loop-i.totals c.loop-i.p c.loop-i._i c.loop-i.invariant c.loop-i-test.true c.requires.0

pub loop-i-preserved : goal.loop-i-preserved
loop-i-preserved c =
    let a = c.args in
    shelf-turn a.space a.file.now a.n a.first a.totals.now c.loop-i.totals c.loop-i.p c.loop-i._i c.loop-i.invariant c.loop-i-test.true _ _ _
    c.units_at-units.ensures.units c.units_at-units.ensures.next c.tally_record.ensures

pub shape_of-totals : goal.shape_of-totals
shape_of-totals c = c.loop-i.invariant.low.long ∙ sym c.requires.1.long

pub returns : goal.returns
returns c =
    let a = c.args in
    shelf-end a.space a.file.now a.n a.first a.totals.now c.loop-i.totals c.loop-i.p c.loop-i._i c.loop-i.invariant c.loop-i-test.false
