use mathlib.Core.Path.{sym, ap, ◌∙◌}
use native.Mathlib.Omega.{arith}
use lib.Ieee.{binary32, of_bits}
use Rattle.colour.specs.Channels.{in_unit}
use Rattle.colour.proofs.Unit.{unit-minus, unit-leb}
use Rattle.colour.proofs.channel.is_unit.Goals as goal

pub returns-then-bits-eq-MINUS_ZERO : goal.returns-then-bits-eq-MINUS_ZERO
returns-then-bits-eq-MINUS_ZERO c = sym (ap (λ (b : _). in_unit (of_bits binary32 b)) c.if-bits-eq-MINUS_ZERO.true ∙ unit-minus)

pub returns : goal.returns
returns c = unit-leb c.args.bits (omega arith) c.if-bits-eq-MINUS_ZERO.false
