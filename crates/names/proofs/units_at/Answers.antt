use Rattle.std.proofs.Common.{sym, ◌∙◌, arith}
use Rattle.algebra.proofs.Texts.{closed_none, units_cut, units_open, units-is}
use Rattle.names.proofs.units_at.Goals as goal

pub returns-then-n-eq0 : goal.returns-then-n-eq0
returns-then-n-eq0 c = sym (units_open _ _ _ _ (omega arith) (closed_none _ _ _ c.if-n-eq0.true))

pub returns-then-s-first : goal.returns-then-s-first
returns-then-s-first c = sym (units_cut _ _ _ _ (omega arith))

pub returns-then-not-is_closed : goal.returns-then-not-is_closed
returns-then-not-is_closed c = sym (units_open _ _ _ _ (omega arith) (sym c.is_closed.ensures ∙ c.if-not-is_closed.true))

pub returns : goal.returns
returns c = sym (units-is _ _ _ _ _ (omega arith) (sym c.is_closed.ensures ∙ c.if-not-is_closed.false) (omega arith))
