use Rattle.std.proofs.Common.{arith}
use Rattle.algebra.proofs.Lanes.{four-marked}
use Rattle.names.proofs.marks.Goals as goal

pub returns : goal.returns
returns c = four-marked c.args.x c.wrapping_sub_u64.result (omega arith) c.wrapping_sub_u64.ensures.value
