use mathlib.Core.Path.{refl}
use Rattle.algebra.proofs.Sequence.{step-no, step-on}
use Rattle.fault.proofs.Exit.{told-exit}
use Rattle.resource_judge.specs.scaffold.Answer.{parts_from}
use Rattle.resource_judge.proofs.Judging.{part-no, part-cut, part-is}
use Rattle.resource_judge.proofs.parts_at.Goals as goal

pub returns-in_err-letters : goal.returns-in_err-letters
unfolding parts_from
returns-in_err-letters c =
    let a = c.args in
    told-exit _ _ _ c.from_residual.ensures.1 (step-no _ _ (part-no a.file.now 1 1 a.at c.in_err-letters.ensures))

pub returns-in_err-p : goal.returns-in_err-p
unfolding parts_from
returns-in_err-p c =
    let a = c.args in
    told-exit _ _ _ c.from_residual-in_err-p.ensures.1 (step-no _ _ (part-cut a.file.now 1 1 a.at c.in_ok-letters.ensures c.in_err-p.ensures))

pub returns-in_err-size : goal.returns-in_err-size
unfolding parts_from
returns-in_err-size c =
    let a = c.args in
    told-exit _ _ _ c.from_residual-in_err-size.ensures.1
    (step-on _ _ (part-is a.file.now 1 1 a.at c.in_ok-letters.ensures c.in_ok-p.ensures) (step-no _ _ (part-no a.file.now 4 0 _ c.in_err-size.ensures)))

pub returns-in_err-next : goal.returns-in_err-next
unfolding parts_from
returns-in_err-next c =
    let a = c.args in
    told-exit _ _ _ c.from_residual-in_err-next.ensures.1
    (step-on _ _ (part-is a.file.now 1 1 a.at c.in_ok-letters.ensures c.in_ok-p.ensures) (step-no _ _ (part-cut a.file.now 4 0 _ c.in_ok-size.ensures c.in_err-next.ensures)))

pub returns : goal.returns
unfolding parts_from
returns c =
    let a = c.args in
    step-on _ _ (part-is a.file.now 1 1 a.at c.in_ok-letters.ensures c.in_ok-p.ensures) (step-on _ _ (part-is a.file.now 4 0 _ c.in_ok-size.ensures c.in_ok-next.ensures) refl)
