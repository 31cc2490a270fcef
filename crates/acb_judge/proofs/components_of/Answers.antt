use borrow.Author.Tests.{ne_eqb}
use Rattle.acb_judge.proofs.components_of.Goals as goal

pub returns-then-space-eq-CMYK : goal.returns-then-space-eq-CMYK
returns-then-space-eq-CMYK c = rw c.if-space-eq-CMYK.true

pub returns : goal.returns
returns c = simp (ne_eqb _ _ c.if-space-eq-CMYK.false)
