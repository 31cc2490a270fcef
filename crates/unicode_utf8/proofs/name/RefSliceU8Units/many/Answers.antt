use mathlib.Core.Path.{sym}
use native.Mathlib.Omega.{arith}
use Rattle.unicode_utf8.proofs.Laws.{length-units}
use Rattle.unicode_utf8.proofs.Answers.{units_in}
use Rattle.unicode_utf8.proofs.name.RefSliceU8Units.many.Goals as goal

pub returns : goal.returns
returns c = (sym (length-units c.args.self.now), units_in c.args.self.now (λ j. omega (arith, c.type_inv.self j)))
