use mathlib.Core.Path.{sym, ◌∙◌}
use native.Mathlib.Omega.{arith}
use Rattle.report.proofs.Laws.{adding-start, adding-small, adding-turn, adding-end}
use Rattle.report.proofs.add_all.Goals as goal

pub loop-i-init : goal.loop-i-init
loop-i-init c = adding-start c.args.totals.now c.args.more.now c.requires.0

pub overflow_add-totals : goal.overflow_add-totals
overflow_add-totals c =
    omega (arith, adding-small c.args.totals.now c.args.more.now c.loop-i.totals c.loop-i.i c.loop-i.invariant c.loop-i-test.true c.requires.2)

pub loop-i-preserved : goal.loop-i-preserved
loop-i-preserved c =
    adding-turn c.args.totals.now c.args.more.now c.loop-i.totals c.loop-i.i c.loop-i.invariant c.loop-i-test.true

pub shape_of-totals : goal.shape_of-totals
shape_of-totals c = c.loop-i.invariant.long ∙ sym c.requires.0

pub returns : goal.returns
returns c =
    adding-end c.args.totals.now c.args.more.now c.loop-i.totals c.loop-i.i c.loop-i.invariant c.loop-i-test.false
