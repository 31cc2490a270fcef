use borrow.Author.Tests.{ne_eqb}
use Rattle.khuyurek.proofs.books.tag_given.Goals as goal

pub returns-then-number-eq0 : goal.returns-then-number-eq0
returns-then-number-eq0 c = rw c.if-number-eq0.true

pub returns-then-number-eq1 : goal.returns-then-number-eq1
returns-then-number-eq1 c = rw c.if-number-eq1.true

pub returns-then-number-eq2 : goal.returns-then-number-eq2
returns-then-number-eq2 c = rw c.if-number-eq2.true

pub returns : goal.returns
returns c = simp (ne_eqb _ _ c.if-number-eq0.false, ne_eqb _ _ c.if-number-eq1.false, ne_eqb _ _ c.if-number-eq2.false)
