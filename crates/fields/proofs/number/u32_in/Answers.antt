use Rattle.algebra.proofs.Laws.{num-4}
use Rattle.fields.proofs.number.u32_in.Goals as goal

pub returns : goal.returns
returns c = cc (num-4 c.args.s.now c.args.at)
