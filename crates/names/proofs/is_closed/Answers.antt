use Rattle.std.proofs.Common.{not, sym, ap, ◌∙◌, arith, eq-eqb, ne_eqb}
use Rattle.algebra.proofs.Texts.{swapped-zero, closed_none, closed-open, closed_is}
use Rattle.names.proofs.is_closed.Goals as goal

pub returns-then-n-eq0 : goal.returns-then-n-eq0
returns-then-n-eq0 c = sym (closed_none _ _ _ c.if-n-eq0.true)

pub returns-then-swapped-ne0 : goal.returns-then-swapped-ne0
returns-then-swapped-ne0 c = sym (closed-open _ _ _ (omega arith) (sym (swapped-zero _ _ c.swapped.ensures) ∙ ne_eqb _ _ c.if-swapped-ne0.true))

pub returns : goal.returns
returns c = ap not c.any_zero.ensures ∙ sym (closed_is _ _ _ (omega arith) (sym (swapped-zero _ _ c.swapped.ensures) ∙ eq-eqb _ _ c.if-swapped-ne0.false))
