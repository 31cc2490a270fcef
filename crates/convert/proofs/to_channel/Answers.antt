use Rattle.convert.proofs.Converting.{same-space, gray-channel, gray-refused, other-channel}
use mathlib.Core.Path.{sym, ◌∙◌}
use Rattle.convert.proofs.to_channel.Goals as goal

pub returns-then-not-is_allowed : goal.returns-then-not-is_allowed
returns-then-not-is_allowed c = gray-refused _ _ c.in-8.is (sym c.is_allowed.ensures ∙ c.if-not-is_allowed.true)

pub returns-in-0 : goal.returns-in-0
returns-in-0 c = same-space _ _ _ _ c.in-0.is c.rgb_channel.ensures

pub returns-in-2 : goal.returns-in-2
returns-in-2 c = same-space _ _ _ _ c.in-2.is c.cmyk_channel.ensures

pub returns-else-not-is_allowed : goal.returns-else-not-is_allowed
returns-else-not-is_allowed c = gray-channel _ _ _ c.in-8.is (sym c.is_allowed.ensures ∙ c.if-not-is_allowed.false) c.quotient.ensures

pub returns-in_default : goal.returns-in_default
returns-in_default c = let r = c.in_default.in_default-own.rest in other-channel _ _ _ r.0.0.1 r.0.1 r.1 c.unmatched.ensures
