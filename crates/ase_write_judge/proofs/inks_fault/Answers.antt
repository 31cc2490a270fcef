use mathlib.Core.Path.{refl, ap, ◌∙◌}
use native.Mathlib.Omega.{arith}
use Rattle.algebra.proofs.Counted.{faults-start, faults-found, faults-more, faults-end}
use Rattle.ase_writing.specs.Writing.{ink_fault}
use Rattle.ase_write_judge.proofs.Judging.{some-fault, fault-exit}
use Rattle.ase_write_judge.proofs.inks_fault.Goals as goal

pub loop-i-init : goal.loop-i-init
loop-i-init c = let a = c.args in (omega arith, faults-start ink_fault _ a.n)

pub returns-in_err-ink_fault : goal.returns-in_err-ink_fault
returns-in_err-ink_fault c =
    let l = c.loop-i in
    let a = c.args in
    let e = c.in_err-ink_fault.ensures ∙ ap ink_fault c.whole_at.ensures in
    fault-exit _ _ c.from_residual.ensures.1 (faults-found ink_fault _ _ a.n l.i l.invariant.1 c.loop-i-test.true _ e (some-fault _))

pub loop-i-preserved : goal.loop-i-preserved
loop-i-preserved c =
    let l = c.loop-i in
    let a = c.args in
    let e = c.in_ok-ink_fault.ensures ∙ ap ink_fault c.whole_at.ensures in
    (omega arith, faults-more ink_fault _ _ a.n l.i l.invariant.1 c.loop-i-test.true _ e refl)

pub returns : goal.returns
returns c =
    let l = c.loop-i in
    let a = c.args in
    faults-end ink_fault _ _ a.n l.i l.invariant.1 c.loop-i-test.false
