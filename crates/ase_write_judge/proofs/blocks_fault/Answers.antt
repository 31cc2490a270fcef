use mathlib.Core.Path.{refl, sym}
use native.Mathlib.Omega.{arith}
use Rattle.ase.specs.Row.{given_in}
use Rattle.ase_write_judge.proofs.Judging.{some-fault, fault-exit, blocks_start, blocks-found, blocks_more, blocks-open, blocks-closed, sound, depth-few}
use Rattle.ase_write_judge.proofs.blocks_fault.Goals as goal

pub loop-i-init : goal.loop-i-init
loop-i-init c = let a = c.args in (omega arith, omega arith, blocks_start a.text.now _ a.n)

pub returns-in_err-block_fault : goal.returns-in_err-block_fault
returns-in_err-block_fault c =
    let l = c.loop-i in
    let a = c.args in
    fault-exit _ _ c.from_residual.ensures.1
    (blocks-found a.text.now _ _ l.depth a.n l.i l.invariant.2 c.loop-i-test.true _ (given_in c.whole_at-given.result) c.whole_at-given.ensures c.in_err-block_fault.ensures (some-fault _))

pub loop-i-preserved : goal.loop-i-preserved
loop-i-preserved c =
    let l = c.loop-i in
    let a = c.args in
    let g = given_in c.whole_at-given.result in
    let e = c.in_ok-block_fault.ensures in
    let h = sound a.text.now l.depth g (sym e) in (
      omega arith,
      omega (arith, depth-few a.text.now l.depth g h l.invariant.1, c.open_after-depth.ensures),
      blocks_more a.text.now _ _ l.depth a.n l.i l.invariant.2 c.loop-i-test.true _ g c.whole_at-given.ensures e refl _ c.open_after-depth.ensures,
    )

pub returns-then-depth-ne0 : goal.returns-then-depth-ne0
returns-then-depth-ne0 c =
    let l = c.loop-i in
    let a = c.args in
    blocks-open a.text.now _ _ l.depth a.n l.i l.invariant.2 c.loop-i-test.false (λ z. omega (arith, c.if-depth-ne0.true))

pub returns : goal.returns
returns c =
    let l = c.loop-i in
    let a = c.args in
    blocks-closed a.text.now _ _ l.depth a.n l.i l.invariant.2 c.loop-i-test.false c.if-depth-ne0.false
