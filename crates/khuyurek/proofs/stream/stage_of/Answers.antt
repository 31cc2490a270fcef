use borrow.Author.Tests.{ne_eqb}
use Rattle.khuyurek.proofs.stream.stage_of.Goals as goal

pub returns-then-x-eq0 : goal.returns-then-x-eq0
returns-then-x-eq0 c = rw c.if-x-eq0.true

pub returns-then-x-eq1 : goal.returns-then-x-eq1
returns-then-x-eq1 c = rw c.if-x-eq1.true

pub returns-then-x-eq2 : goal.returns-then-x-eq2
returns-then-x-eq2 c = rw c.if-x-eq2.true

pub returns-then-x-eq3 : goal.returns-then-x-eq3
returns-then-x-eq3 c = rw c.if-x-eq3.true

pub returns-then-x-eq4 : goal.returns-then-x-eq4
returns-then-x-eq4 c = rw (c.is_set.ensures, c.if-x-eq4.true)

pub returns-then-x-eq5 : goal.returns-then-x-eq5
returns-then-x-eq5 c = rw c.if-x-eq5.true

pub returns-then-x-eq6 : goal.returns-then-x-eq6
returns-then-x-eq6 c = rw c.if-x-eq6.true

pub returns : goal.returns
returns c = simp (ne_eqb _ _ c.if-x-eq0.false, ne_eqb _ _ c.if-x-eq1.false, ne_eqb _ _ c.if-x-eq2.false, ne_eqb _ _ c.if-x-eq3.false, ne_eqb _ _ c.if-x-eq4.false, ne_eqb _ _ c.if-x-eq5.false, ne_eqb _ _ c.if-x-eq6.false)
