use Prim.Native.Nat.{ℕ}
use mathlib.Core.Path.{sym, ap, ◌∙◌}
use Rattle.algebra.proofs.Sequence.{step-no, step-on}
use Rattle.fault.proofs.Exit.{told-exit}
use Rattle.resource_judge.specs.scaffold.Answer.{parts_from}
use Rattle.resource_judge.proofs.Judging.{block-record}
use Rattle.resource_judge.proofs.block_at.Goals as goal

pub returns-in_err-id : goal.returns-in_err-id
returns-in_err-id c =
    let a = c.args in
    told-exit _ _ _ c.from_residual.ensures.1 (step-no _ _ c.in_err-id.ensures ∙ sym (block-record a.file.now a.at))

pub returns : goal.returns
returns c =
    let a = c.args in
    step-on _ _ c.in_ok-id.ensures (c.parts_at.ensures ∙ ap (λ (i : ℕ). parts_from i a.file.now c.in_ok-id.parts) c.from.ensures) ∙ sym (block-record a.file.now a.at)
