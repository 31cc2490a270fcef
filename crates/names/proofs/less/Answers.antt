use Rattle.algebra.proofs.Lanes.{four-clear}
use Rattle.names.proofs.less.Goals as goal

pub returns : goal.returns
returns c = four-clear c.args.x c.wrapping_sub_u64.result c.wrapping_sub_u64.ensures.value
