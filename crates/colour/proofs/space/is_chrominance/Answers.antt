use mathlib.Core.Path.{sym}
use native.Mathlib.Omega.{arith}
use Rattle.colour.proofs.Laws.{chrominance-is}
use Rattle.colour.proofs.space.is_chrominance.Goals as goal

pub returns : goal.returns
returns c = sym (chrominance-is _ (omega arith))
