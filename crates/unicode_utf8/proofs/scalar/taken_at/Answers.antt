use mathlib.Core.Path.{sym, ◌∙◌}
use mathlib.Core.Bool.{true, false}
use native.Mathlib.Omega.{arith}
use Rattle.unicode_utf8.proofs.Scalars.{taken_is}
use Rattle.unicode_utf8.proofs.scalar.taken_at.Goals as goal

pub returns-then-is_pair : goal.returns-then-is_pair
returns-then-is_pair c = let a = c.args in (taken_is a.u a.v true (sym c.if-is_pair.true ∙ c.is_pair.ensures), omega arith)

pub returns : goal.returns
returns c = let a = c.args in (taken_is a.u a.v false (sym c.if-is_pair.false ∙ c.is_pair.ensures), omega arith)
