use mathlib.Core.Path.{sym, ◌∙◌}
use borrow.Author.Tests.{eq-eqb, ne_eqb}
use Rattle.aco_write_judge.proofs.judge_ink.Goals as goal

pub returns-then-given-number : goal.returns-then-given-number
returns-then-given-number c = sym (rw (eq-eqb _ 4 (c.if-given-number.true ∙ c.number.ensures)))

pub returns : goal.returns
returns c = sym (rw (ne_eqb _ 4 (λ e. c.if-given-number.false (e ∙ sym c.number.ensures))))
