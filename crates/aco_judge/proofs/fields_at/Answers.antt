use mathlib.Core.Path.{sym, ◌∙◌}
use Rattle.fault.proofs.Exit.{field-exit, short}
use Rattle.aco_judge.proofs.Judging.{colour-short, colour-unknown, colour-known}
use Rattle.aco_judge.proofs.fields_at.Goals as goal

pub returns-in_err-space : goal.returns-in_err-space
returns-in_err-space c =
    let a = c.args in
    let s = a.file.now in
    field-exit 2 s a.at _ _ _ c.from_residual.ensures.1 c.in_err-space.ensures (sym (colour-short s a.at (short 2 s a.at c.in_err-space.ensures)))

pub returns-then-not-is_known : goal.returns-then-not-is_known
returns-then-not-is_known c =
    let a = c.args in
    sym (colour-unknown a.file.now a.at _ _ c.in_ok-space.ensures (sym c.is_known.ensures ∙ c.if-not-is_known.true))

pub returns : goal.returns
returns c =
    let a = c.args in
    c.samples_at.ensures ∙ sym (colour-known a.file.now a.at _ _ c.in_ok-space.ensures (sym c.is_known.ensures ∙ c.if-not-is_known.false))
