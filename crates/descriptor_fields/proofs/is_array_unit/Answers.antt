use Rattle.std.proofs.Common.{rules}
use Rattle.descriptor.specs.Reading.{array_units, is_array_unit}
use Rattle.descriptor.proofs.Keys.{ascending, key_in, key-out}
use mathlib.Core.Path.{refl, sym}
use Rattle.descriptor_fields.proofs.is_array_unit.Goals as goal

pub returns-in-592604276 : goal.returns-in-592604276
unfolding is_array_unit
returns-in-592604276 c = sym (key_in (ascending array_units) array_units refl _ c.in-592604276.is)

pub returns-in_default : goal.returns-in_default
unfolding is_array_unit
returns-in_default c = sym (key-out (ascending array_units) array_units refl c.args.tag (search rules))
