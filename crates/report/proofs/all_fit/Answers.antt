use mathlib.Core.Path.{sym}
use native.Mathlib.Omega.{arith}
use Rattle.report.proofs.Laws.{sum-full, sums-more, sum_fits}
use Rattle.report.proofs.all_fit.Goals as goal

pub loop-i-init : goal.loop-i-init
loop-i-init c = (omega arith, λ k h. absurd (omega arith))

pub overflow_sub-totals : goal.overflow_sub-totals
overflow_sub-totals c = omega (arith, c.type_inv.totals c.loop-i.i)

pub returns-then-totals-i : goal.returns-then-totals-i
returns-then-totals-i c =
    let a = c.args in
    sym (sum-full a.totals.now a.more.now c.loop-i.i c.loop-i-test.true (omega (arith, c.if-totals-i.true)))

pub loop-i-preserved : goal.loop-i-preserved
loop-i-preserved c =
    let a = c.args in
    (omega arith, sums-more a.totals.now a.more.now c.loop-i.i c.loop-i.invariant.1 (omega (arith, c.if-totals-i.false, c.type_inv.totals c.loop-i.i)))

pub returns : goal.returns
returns c =
    let a = c.args in
    sym (sum_fits a.totals.now a.more.now (λ k h. c.loop-i.invariant.1 k (omega arith)))
