use mathlib.Core.Path.{◌∙◌}
use native.Mathlib.Omega.{arith}
use Rattle.unicode_utf8.proofs.Laws.{unit-is}
use Rattle.unicode_utf8.proofs.name.RefSliceU8Units.unit_at.Goals as goal

pub returns : goal.returns
returns c = (c.from.ensures ∙ c.number_or_zero.ensures ∙ unit-is _ _, (let h = c.from.ensures in let k = c.number_or_zero.type_inv in omega arith))
