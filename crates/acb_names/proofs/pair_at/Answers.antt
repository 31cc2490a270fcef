use Rattle.algebra.proofs.Laws.{num-4}
use native.Mathlib.Omega.{arith}
use Rattle.acb_names.proofs.pair_at.Goals as goal

pub returns : goal.returns
returns c = omega (arith, num-4 c.args.file.now c.args.at)
