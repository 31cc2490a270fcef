use Rattle.ase_write_judge.proofs.Judging.{colour-content-fine}
use Rattle.ase_write.proofs.Puts.{put-after-name}
use mathlib.Core.Path.{refl}
use native.Mathlib.Omega.{arith}
use Rattle.ase.specs.Row.{given_in}
use Rattle.ase_write.proofs.put_after_name.Goals as goal

pub put_channels-requires : goal.put_channels-requires
put_channels-requires c =
    let e = c.channels_of-n.ensures.0 in
    (omega (arith, e, c.requires.0, c.put_number.auto.out), e, (colour-content-fine (given_in c.args.given) c.requires.1).0)

pub overflow_cast-given : goal.overflow_cast-given
overflow_cast-given c = omega (arith, (colour-content-fine (given_in c.args.given) c.requires.1).1)

pub returns : goal.returns
returns c =
    put-after-name (given_in c.args.given) refl c.args.out.now _ _ _ c.args.at _ c.channels_of-n.ensures.0 c.requires.0 c.put_number.ensures c.put_channels.ensures c.put_channels.auto.out c.put_number-2.ensures
