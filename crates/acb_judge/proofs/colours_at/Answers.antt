use mathlib.Core.Path.{sym}
use native.Mathlib.Omega.{arith}
use Rattle.acb.specs.Reading.{colour}
use Rattle.algebra.proofs.Laws.{turn-start, turn-ok, turn-no, turn_end}
use Rattle.fault.proofs.Exit.{told-exit}
use Rattle.acb_judge.proofs.colours_at.Goals as goal

pub loop-i-init : goal.loop-i-init
loop-i-init c = let a = c.args in (omega arith, turn-start (λ k. colour a.n) _ _ _)

pub returns-in_err-p : goal.returns-in_err-p
returns-in_err-p c =
    let l = c.loop-i in
    let a = c.args in
    told-exit _ _ _ c.from_residual.ensures.1 (sym (turn-no (λ k. colour a.n) a.file.now _ a.count l._i l.p l.invariant.1 c.loop-i-test.true (sym c.in_err-p.ensures)))

pub loop-i-preserved : goal.loop-i-preserved
loop-i-preserved c =
    let l = c.loop-i in
    let a = c.args in
    (omega arith, turn-ok (λ k. colour a.n) a.file.now _ a.count l._i l.p l.invariant.1 c.loop-i-test.true _ (sym c.in_ok-p.ensures))

pub returns : goal.returns
returns c =
    let l = c.loop-i in
    let a = c.args in
    sym (turn_end (λ k. colour a.n) a.file.now _ a.count l._i l.p l.invariant.1 c.loop-i-test.false)
