use Rattle.algebra.proofs.Laws.{num-2}
use native.Mathlib.Omega.{arith}
use Rattle.acb_names.proofs.unit_at.Goals as goal

pub returns : goal.returns
returns c = omega (arith, num-2 c.args.file.now c.args.at)
