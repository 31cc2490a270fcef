use native.Mathlib.Omega.{arith}
use Rattle.convert.proofs.Converting.{cmyk-given}
use Rattle.convert.proofs.cmyk_channel.Goals as goal

pub returns : goal.returns
returns c = cmyk-given c.args.sample _ (omega arith) c.quotient.ensures
