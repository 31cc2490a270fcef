use mathlib.Core.Path.{sym}
use native.Mathlib.Omega.{arith}
use Rattle.fault.proofs.Exit.{told-exit}
use Rattle.ase_judge.proofs.Judging.{rest-start, turn-ok, turn-no, rest_end}
use Rattle.ase_judge.proofs.blocks_at.Goals as goal

pub loop-i-init : goal.loop-i-init
loop-i-init c = let a = c.args in (omega arith, omega arith, rest-start a.n a.file.now a.at)

pub block_at-requires : goal.block_at-requires
block_at-requires c = tt

pub returns-in_err-passed : goal.returns-in_err-passed
returns-in_err-passed c =
    let l = c.loop-i in
    let a = c.args in
    told-exit _ _ _ c.from_residual.ensures.1 (sym (turn-no a.n l._i l.colours l.depth a.file.now l.p _ l.invariant.2 c.loop-i-test.true _ _ c.in_err-passed.ensures))

pub overflow_add-colours : goal.overflow_add-colours
overflow_add-colours c =
    let l = c.loop-i in
    let a = c.args in
    let t = turn-ok a.n l._i l.colours l.depth a.file.now l.p _ l.invariant.2 c.loop-i-test.true _ _ _ c.in_ok-passed.ensures l.invariant.1 in
    omega (arith, t.0)

pub loop-i-preserved : goal.loop-i-preserved
loop-i-preserved c =
    let l = c.loop-i in
    let a = c.args in
    let t = turn-ok a.n l._i l.colours l.depth a.file.now l.p _ l.invariant.2 c.loop-i-test.true _ _ _ c.in_ok-passed.ensures l.invariant.1 in
    (omega arith, t.0, t.1)

pub returns : goal.returns
returns c =
    let l = c.loop-i in
    let a = c.args in
    sym (rest_end a.n l._i l.colours l.depth a.file.now l.p _ l.invariant.2 c.loop-i-test.false)
