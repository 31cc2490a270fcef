use mathlib.Core.Path.{refl, sym, ap, ◌∙◌}
use Rattle.algebra.specs.Table.{verdict}
use Rattle.algebra.proofs.Sequence.{step-no, step-on}
use Rattle.resource_document.proofs.Finding.{told-no, document-is}
use Rattle.resource_document.proofs.resources.Goals as goal

pub returns-in_err-image : goal.returns-in_err-image
returns-in_err-image c = told-no _ _ c.from_residual.ensures.1 (ap (verdict (λ x. x)) (step-no _ _ c.in_err-image.ensures ∙ sym (document-is c.args.file.now)))

pub returns-in_err-colours : goal.returns-in_err-colours
returns-in_err-colours c = told-no _ _ c.from_residual-in_err-colours.ensures.1 (ap (verdict (λ x. x)) (step-on _ _ c.in_ok-image.ensures (step-no _ _ c.in_err-colours.ensures) ∙ sym (document-is c.args.file.now)))

pub returns-in_err-section : goal.returns-in_err-section
returns-in_err-section c = told-no _ _ c.from_residual-in_err-section.ensures.1 (ap (verdict (λ x. x)) (step-on _ _ c.in_ok-image.ensures (step-on _ _ c.in_ok-colours.ensures (step-no _ _ c.in_err-section.ensures)) ∙ sym (document-is c.args.file.now)))

pub returns : goal.returns
returns c =
    c.resources_at.ensures ∙ ap (verdict (λ x. x)) (step-on _ _ c.in_ok-image.ensures (step-on _ _ c.in_ok-colours.ensures (step-on _ _ c.in_ok-section.ensures refl)) ∙ sym (document-is c.args.file.now))
