use Rattle.algebra.proofs.Laws.{num-split}
use native.Mathlib.Omega.{arith}
use Rattle.acb_names.proofs.word_at.Goals as goal

pub returns : goal.returns
returns c = omega (arith, num-split 4 4 c.args.file.now c.args.at)
