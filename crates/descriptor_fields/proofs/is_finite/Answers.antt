use Rattle.algebra.proofs.Floats.{finite-bits}
use lib.Ieee.{binary64}
use mathlib.Core.Path.{sym}
use Rattle.descriptor_fields.proofs.is_finite.Goals as goal

pub returns : goal.returns
returns c = sym (finite-bits binary64 c.args.bits)
