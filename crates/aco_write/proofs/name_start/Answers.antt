use mathlib.Core.Path.{sym}
use borrow.Author.Tests.{eq-eqb, ne_eqb}
use Rattle.aco_write.proofs.name_start.Goals as goal

pub returns-then-given-eq0 : goal.returns-then-given-eq0
returns-then-given-eq0 c = simp (eq-eqb _ 0 c.if-given-eq0.true)

pub returns : goal.returns
returns c = sym (simp (ne_eqb _ 0 c.if-given-eq0.false))
