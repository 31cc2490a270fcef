-- Words of the theorems: how wide the numbers of a replacement are, and replacements as values that a row says.
use Rattle.std.specs.Prelude.{◌^◌, ◌<◌, eqb}
use Rattle.std.specs.Float.{binary64}
use Rattle.std.specs.Float.Ieee.{of_bits, to_bits}
use Rattle.algebra.specs.Reader.{Res, ok, refuse, pick}
use Rattle.descriptor_read.specs.declared.Typed.{Typed}
use Rattle.descriptor_read.specs.declared.Typed.TheVariants as vt
use Rattle.descriptor_replace.specs.declared.Replacement.{Replacement}
use Rattle.descriptor_replace.specs.declared.Replacement.TheVariants as vr

-- the numbers of a replacement are as wide as its type has them
abbrev pub Fits : Replacement → Type 0
Fits (vr.Bool b) = b < 256 ^ 8
Fits (vr.Long n) = n < 256 ^ 8
Fits (vr.Comp n) = n < 256 ^ 8
Fits (vr.Double n) = n < 256 ^ 8
Fits (vr.UnitDouble u n) = (u < 256 ^ 4) × (n < 256 ^ 8)
Fits vr.Other = Unit {0}

-- the value that it is: a `bool` is true where it is 1, a double is that of its bits
abbrev pub typed_by : Replacement → Typed
typed_by (vr.Bool b) = vt.Bool (eqb b 1)
typed_by (vr.Long n) = vt.Long n
typed_by (vr.Comp n) = vt.Comp n
typed_by (vr.Double n) = vt.Double (of_bits binary64 n)
typed_by (vr.UnitDouble u n) = vt.UnitDouble u (of_bits binary64 n)
typed_by vr.Other = vt.Other

-- a row's value as a replacement: a `bool` by 0 or 1, a double by its bits; a row without one has none
abbrev pub as_given : Res Typed → Replacement
as_given (ok (vt.Bool b) q) = vr.Bool (pick b 1 0)
as_given (ok (vt.Long n) q) = vr.Long n
as_given (ok (vt.Comp n) q) = vr.Comp n
as_given (ok (vt.Double x) q) = vr.Double (to_bits binary64 x)
as_given (ok (vt.UnitDouble u x) q) = vr.UnitDouble u (to_bits binary64 x)
as_given (ok vt.Other q) = vr.Other
as_given (refuse x p r f) = vr.Other
