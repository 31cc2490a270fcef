use mathlib.Core.Path.{sym}
use native.Mathlib.Omega.{arith}
use Rattle.aco_judge.specs.Answer.{told}
use Rattle.aco_judge.proofs.Judging.{err-exit, judged-exit, colours-refused, colours-end, colours-within, lists-one, lists-two, lists-refused}
use Rattle.aco_judge.proofs.lists_at.Goals as goal

pub returns-in_err-end : goal.returns-in_err-end
returns-in_err-end c = err-exit told _ _ c.from_residual.ensures.1 (sym (colours-refused _ _ (sym c.in_err-end.ensures)))

pub returns-then-end-file : goal.returns-then-end-file
returns-then-end-file c = sym (lists-one _ _ _ (sym c.in_ok-end.ensures) c.if-end-file.true)

pub second_at-requires : goal.second_at-requires
second_at-requires c =
    let a = c.args in
    let e = sym c.in_ok-end.ensures in
    (omega (arith, colours-end a.file.now a.n _ e), colours-within a.file.now a.n _ e c.requires)

pub returns-in_err-second_at : goal.returns-in_err-second_at
returns-in_err-second_at c =
    judged-exit _ _ c.from_residual-in_err-second_at.ensures.1 c.in_err-second_at.ensures
    (λ x p r f e. lists-refused _ _ _ (sym c.in_ok-end.ensures) c.if-end-file.false e)

pub returns : goal.returns
returns c = sym (lists-two _ _ _ (sym c.in_ok-end.ensures) c.if-end-file.false (sym c.in_ok-second_at.ensures))
