use mathlib.Core.Path.{refl}
use Rattle.descriptor_build.proofs.Puts as P
use Rattle.descriptor_build.proofs.put_flag.Goals as goal

pub returns : goal.returns
returns c = (P.flag-put c.args.out.now c.args.at c.args.v c.requires.1, refl)
