use Rattle.std.proofs.Common.{rules}
use Rattle.descriptor.specs.Reading.{units, is_unit}
use Rattle.descriptor.proofs.Keys.{ascending, key_in, key-out}
use mathlib.Core.Path.{refl, sym}
use Rattle.descriptor_fields.proofs.is_unit.Goals as goal

pub returns-in-591490663 : goal.returns-in-591490663
unfolding is_unit
returns-in-591490663 c = sym (key_in (ascending units) units refl _ c.in-591490663.is)

pub returns-in_default : goal.returns-in_default
unfolding is_unit
returns-in_default c = sym (key-out (ascending units) units refl c.args.tag (search rules))
