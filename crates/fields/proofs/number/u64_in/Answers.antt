use Rattle.algebra.proofs.Laws.{num-split}
use Rattle.fields.proofs.number.u64_in.Goals as goal

pub returns : goal.returns
returns c = cc (num-split 4 4 c.args.s.now c.args.at)
