use native.Mathlib.Omega.{arith}
use Rattle.convert.proofs.Converting.{rgb-given}
use Rattle.convert.proofs.rgb_channel.Goals as goal

pub returns : goal.returns
returns c = rgb-given c.args.sample _ (omega arith) c.quotient.ensures
