use mathlib.Core.Path.{refl}
use Rattle.algebra.proofs.Sequence.{step-no, step-on}
use Rattle.acb.specs.Reading.{numbers}
use Rattle.fault.proofs.Exit.{told-exit}
use Rattle.acb_judge.proofs.counts_at.Goals as goal

pub returns-in_err-count : goal.returns-in_err-count
unfolding numbers
returns-in_err-count c =
    told-exit _ _ _ c.from_residual.ensures.1 (step-no _ _ c.in_err-count.ensures)

pub returns-in_err-size : goal.returns-in_err-size
unfolding numbers
returns-in_err-size c =
    told-exit _ _ _ c.from_residual-in_err-size.ensures.1 (step-on _ _ c.in_ok-count.ensures (step-no _ _ c.in_err-size.ensures))

pub returns-in_err-offset : goal.returns-in_err-offset
unfolding numbers
returns-in_err-offset c =
    told-exit _ _ _ c.from_residual-in_err-offset.ensures.1 (step-on _ _ c.in_ok-count.ensures (step-on _ _ c.in_ok-size.ensures (step-no _ _ c.in_err-offset.ensures)))

pub returns-in_err-space : goal.returns-in_err-space
unfolding numbers
returns-in_err-space c =
    told-exit _ _ _ c.from_residual-in_err-space.ensures.1
    (step-on _ _ c.in_ok-count.ensures (step-on _ _ c.in_ok-size.ensures (step-on _ _ c.in_ok-offset.ensures (step-no _ _ c.in_err-space.ensures))))

pub returns : goal.returns
unfolding numbers
returns c =
    step-on _ _ c.in_ok-count.ensures (step-on _ _ c.in_ok-size.ensures (step-on _ _ c.in_ok-offset.ensures (step-on _ _ c.in_ok-space.ensures refl)))
