use native.Mathlib.Omega.{arith}
use mathlib.Core.Path.{refl}
use Rattle.resource_judge.proofs.Judging.{count-start, count-end, count_no, count-ok, told-no}
use Rattle.resource_judge.proofs.blocks_in.Goals as goal

pub loop-at-init : goal.loop-at-init
loop-at-init c = (omega arith, omega arith, refl, count-start c.args.file.now)

pub block_end-requires : goal.block_end-requires
block_end-requires c = c.loop-at.invariant.2

pub returns-in_err-at : goal.returns-in_err-at
returns-in_err-at c =
    let l = c.loop-at in
    told-no _ _ c.from_residual.ensures.1 (count_no c.args.file.now _ _ _ l.invariant.0 l.invariant.3 c.loop-at-test.true c.in_err-at.ensures)

pub overflow_add-n : goal.overflow_add-n
overflow_add-n c =
    let l = c.loop-at in
    omega (arith, l.invariant.0, l.invariant.1)

pub loop-at-smaller : goal.loop-at-smaller
loop-at-smaller c =
    let l = c.loop-at in
    let t = count-ok c.args.file.now _ _ _ l.invariant.0 l.invariant.3 c.loop-at-test.true c.in_ok-at.ensures in
    omega (arith, t.moved, t.inside)

pub loop-at-preserved : goal.loop-at-preserved
loop-at-preserved c =
    let l = c.loop-at in
    let t = count-ok c.args.file.now _ _ _ l.invariant.0 l.invariant.3 c.loop-at-test.true c.in_ok-at.ensures in
    (t.inside, omega (arith, t.moved, l.invariant.1), t.even l.invariant.2, t.is)

pub returns : goal.returns
returns c =
    let l = c.loop-at in
    count-end c.args.file.now _ _ _ l.invariant.0 l.invariant.3 c.loop-at-test.false
