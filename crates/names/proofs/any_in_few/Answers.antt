use Rattle.std.proofs.Common.{sym, ◌∙◌}
use Rattle.algebra.proofs.Lanes.{four-found, tail-left}
use Rattle.names.proofs.any_in_few.Goals as goal

pub returns-then-any_in_fours : goal.returns-then-any_in_fours
returns-then-any_in_fours c = sym (four-found _ _ _ (sym c.any_in_fours.ensures ∙ c.if-any_in_fours.true))

pub returns : goal.returns
returns c = c.any_one_by_one.ensures ∙ sym (tail-left _ _ _ (sym c.any_in_fours.ensures ∙ c.if-any_in_fours.false))
