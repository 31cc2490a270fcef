use mathlib.Core.Path.{sym}
use lib.Ieee.{binary32}
use Rattle.algebra.proofs.Floats.{finite-bits}
use Rattle.colour.proofs.channel.is_finite.Goals as goal

pub returns : goal.returns
returns c = sym (finite-bits binary32 c.args.bits)
