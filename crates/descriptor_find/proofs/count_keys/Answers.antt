use Rattle.descriptor_find.proofs.Keys as K
use Rattle.descriptor_judge.proofs.Whole.{handed}
use Rattle.descriptor_find.specs.scaffold.Finding.{told_count}
use native.Mathlib.Omega.{arith}
use Rattle.descriptor_find.proofs.count_keys.Goals as goal

pub loop-at-init : goal.loop-at-init
loop-at-init c =
    K.count-start c.args.keys.now

pub returns-in_err-at : goal.returns-in_err-at
returns-in_err-at c =
    handed told_count _ _ c.from_residual.ensures.1 (K.count-refused c.args.keys.now c.loop-at.at c.loop-at.n _ _ c.loop-at.invariant c.loop-at-test.true c.in_err-at.ensures)

pub overflow_add-n : goal.overflow_add-n
overflow_add-n c =
    let g = c.loop-at.invariant in
    omega (arith, g.few, g.inside)

pub loop-at-smaller : goal.loop-at-smaller
loop-at-smaller c =
    let x = K.count_next c.args.keys.now c.loop-at.at c.loop-at.n _ c.loop-at.invariant c.loop-at-test.true c.in_ok-at.ensures in
    let l = c.loop-at-test.true in
    omega (arith, x.1, l)

pub loop-at-preserved : goal.loop-at-preserved
loop-at-preserved c =
    (K.count_next c.args.keys.now c.loop-at.at c.loop-at.n _ c.loop-at.invariant c.loop-at-test.true c.in_ok-at.ensures).0

pub returns : goal.returns
returns c =
    K.count-end c.args.keys.now c.loop-at.at c.loop-at.n c.loop-at.invariant c.loop-at-test.false
