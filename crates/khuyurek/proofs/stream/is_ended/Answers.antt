use borrow.Author.Tests.{ne_eqb}
use Rattle.khuyurek.proofs.stream.is_ended.Goals as goal

pub returns-then-ended-eq0 : goal.returns-then-ended-eq0
returns-then-ended-eq0 c = rw c.if-ended-eq0.true

pub returns : goal.returns
returns c = simp (ne_eqb _ _ c.if-ended-eq0.false)
