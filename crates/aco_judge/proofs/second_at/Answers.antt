use mathlib.Core.Path.{sym, ◌∙◌}
use borrow.Author.Tests.{eq-eqb, ne_eqb}
use Rattle.aco_judge.specs.scaffold.Answer.{told_repeated}
use Rattle.aco_judge.proofs.Judging.{err-exit, repeated-exit, second-refused, second-differs, second_from}
use Rattle.aco_judge.proofs.second_at.Goals as goal

pub returns-in_err-m : goal.returns-in_err-m
returns-in_err-m c =
    err-exit told_repeated _ _ c.from_residual.ensures.1 (sym (second-refused _ _ _ (sym c.in_err-m.ensures)))

pub returns-then-m-n : goal.returns-then-m-n
returns-then-m-n c = sym (second-differs _ _ _ _ _ (sym c.in_ok-m.ensures) c.if-m-n.true)

pub returns-in_err-end : goal.returns-in_err-end
returns-in_err-end c =
    repeated-exit _ _ c.from_residual-in_err-end.ensures.1 c.in_err-end.ensures
    (λ x p r f e. second_from _ _ _ _ _ (sym c.in_ok-m.ensures) c.if-m-n.false _ (sym e))

pub returns-then-end-file : goal.returns-then-end-file
returns-then-end-file c =
    sym (second_from _ _ _ _ _ (sym c.in_ok-m.ensures) c.if-m-n.false _ c.in_ok-end.ensures ∙ simp (ne_eqb _ _ c.if-end-file.true))

pub returns : goal.returns
returns c =
    sym (second_from _ _ _ _ _ (sym c.in_ok-m.ensures) c.if-m-n.false _ c.in_ok-end.ensures ∙ simp (eq-eqb _ _ c.if-end-file.false))
