use mathlib.Core.Path.{refl, sym, ap, ◌∙◌}
use native.Mathlib.Omega.{arith}
use Rattle.algebra.specs.Table.{verdict}
use Rattle.algebra.proofs.Sequence.{step-no, step-on}
use Rattle.resource_document.proofs.Finding.{told-no, resources-are, past-limit, within-limit}
use Rattle.resource_document.proofs.resources_at.Goals as goal

pub returns-in_err-n : goal.returns-in_err-n
returns-in_err-n c =
    let a = c.args in
    told-no _ _ c.from_residual.ensures.1 (ap (verdict (λ x. x)) (step-no _ _ c.in_err-n.ensures ∙ sym (resources-are a.file.now a.at)))

pub returns-then-size-gt-LIMIT : goal.returns-then-size-gt-LIMIT
returns-then-size-gt-LIMIT c =
    let a = c.args in
    ap (verdict (λ x. x)) (step-on _ _ c.in_ok-n.ensures (past-limit a.file.now _ _ c.if-size-gt-LIMIT.true) ∙ sym (resources-are a.file.now a.at))

pub returns-in_err-run_at : goal.returns-in_err-run_at
returns-in_err-run_at c =
    let a = c.args in
    told-no _ _ c.from_residual-in_err-run_at.ensures.1
    (ap (verdict (λ x. x)) (step-on _ _ c.in_ok-n.ensures (step-no _ _ c.in_err-run_at.ensures ∙ sym (within-limit a.file.now _ _ (omega (arith, c.if-size-gt-LIMIT.false)))) ∙ sym (resources-are a.file.now a.at)))

pub returns : goal.returns
returns c =
    let a = c.args in
    ap (verdict (λ x. x)) (step-on _ _ c.in_ok-n.ensures (step-on _ _ c.in_ok-run_at.ensures refl ∙ sym (within-limit a.file.now _ _ (omega (arith, c.if-size-gt-LIMIT.false)))) ∙ sym (resources-are a.file.now a.at))
