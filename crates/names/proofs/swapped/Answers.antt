use Rattle.std.proofs.Common.{arith}
use Rattle.algebra.proofs.Laws.{num-2}
use Rattle.names.proofs.swapped.Goals as goal

pub returns : goal.returns
returns c = let a = c.args in omega (arith, num-2 a.s.now a.at, c.ranges)
