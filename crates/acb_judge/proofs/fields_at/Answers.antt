use mathlib.Core.Path.{refl, ◌∙◌}
use Rattle.algebra.proofs.Sequence.{step-no, step-on}
use Rattle.fault.proofs.Exit.{told-exit}
use Rattle.acb_judge.proofs.Judging.{header-parts}
use Rattle.acb_judge.proofs.fields_at.Goals as goal

pub returns-in_err-texts : goal.returns-in_err-texts
returns-in_err-texts c =
    told-exit _ _ _ c.from_residual.ensures.1 (step-no _ _ c.in_err-texts.ensures ∙ header-parts _ _ _)

pub returns-in_err-counts : goal.returns-in_err-counts
returns-in_err-counts c =
    told-exit _ _ _ c.from_residual-in_err-counts.ensures.1 (step-on _ _ c.in_ok-texts.ensures (step-no _ _ c.in_err-counts.ensures) ∙ header-parts _ _ _)

pub returns : goal.returns
returns c =
    step-on _ _ c.in_ok-texts.ensures (step-on _ _ c.in_ok-counts.ensures refl) ∙ header-parts _ _ _
