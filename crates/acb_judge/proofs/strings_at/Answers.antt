use mathlib.Core.Path.{refl, ◌∙◌}
use Rattle.algebra.proofs.Sequence.{step-no, step-on}
use Rattle.fault.proofs.Exit.{told-exit}
use Rattle.acb_judge.proofs.Judging.{strings-four}
use Rattle.acb_judge.proofs.strings_at.Goals as goal

pub returns-in_err-title : goal.returns-in_err-title
returns-in_err-title c =
    told-exit _ _ _ c.from_residual.ensures.1 (step-no _ _ c.in_err-title.ensures ∙ strings-four _ _)

pub returns-in_err-prefix : goal.returns-in_err-prefix
returns-in_err-prefix c =
    told-exit _ _ _ c.from_residual-in_err-prefix.ensures.1 (step-on _ _ c.in_ok-title.ensures (step-no _ _ c.in_err-prefix.ensures) ∙ strings-four _ _)

pub returns-in_err-suffix : goal.returns-in_err-suffix
returns-in_err-suffix c =
    told-exit _ _ _ c.from_residual-in_err-suffix.ensures.1
    (step-on _ _ c.in_ok-title.ensures (step-on _ _ c.in_ok-prefix.ensures (step-no _ _ c.in_err-suffix.ensures)) ∙ strings-four _ _)

pub returns-in_err-description : goal.returns-in_err-description
returns-in_err-description c =
    told-exit _ _ _ c.from_residual-in_err-description.ensures.1
    (step-on _ _ c.in_ok-title.ensures (step-on _ _ c.in_ok-prefix.ensures (step-on _ _ c.in_ok-suffix.ensures (step-no _ _ c.in_err-description.ensures))) ∙ strings-four _ _)

pub returns : goal.returns
returns c =
    step-on _ _ c.in_ok-title.ensures (step-on _ _ c.in_ok-prefix.ensures (step-on _ _ c.in_ok-suffix.ensures (step-on _ _ c.in_ok-description.ensures refl))) ∙ strings-four _ _
