-- A replacement in numbers: its kind as four characters in one number, a unit, and bits; any other kind stands for none that can be replaced.
use Rattle.std.specs.Prelude.{ℕ, eqb}
use Rattle.algebra.specs.Chars.{chars}
use Rattle.algebra.specs.Reader.{pick}
use Rattle.descriptor_replace.specs.declared.Replacement.{Replacement}
use Rattle.descriptor_replace.specs.declared.Replacement.TheVariants as vr

abbrev pub value_of : (kind unit bits : ℕ) → Replacement
value_of k u b =
    pick (eqb k (chars "bool")) (vr.Bool b)
    (pick (eqb k (chars "long")) (vr.Long b)
    (pick (eqb k (chars "comp")) (vr.Comp b)
    (pick (eqb k (chars "doub")) (vr.Double b)
    (pick (eqb k (chars "UntF")) (vr.UnitDouble u b) vr.Other))))
