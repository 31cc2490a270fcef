-- The value of a row by its kind.
use Rattle.std.specs.Prelude.{ℕ, ◌+◌, List, Result, eqb}
use Rattle.std.specs.Float.{binary64}
use Rattle.std.specs.Float.Ieee.{of_bits}
use Rattle.algebra.specs.Chars.{chars}
use Rattle.algebra.specs.Numbers.{num}
use Rattle.algebra.specs.Reader.{Res, ok, refuse, pick}
use Rattle.fault.specs.Answer.{told}
use Rattle.fault.specs.declared.Refusal.{Refusal}
use Rattle.descriptor_read.specs.Values.{RowAnswer, found, missing}
use Rattle.descriptor_read.specs.declared.Typed.{Typed}
use Rattle.descriptor_read.specs.declared.Typed.TheVariants as vt

-- the value at v of a row of kind t: `bool`, `long`, `comp`, `doub`, `UntF`; another kind has none
unfoldable pub typed_in : List ℕ → ℕ → ℕ → Typed
typed_in s t v =
    pick (eqb t (chars "bool")) (vt.Bool (eqb (num 1 s v) 1))
    (pick (eqb t (chars "long")) (vt.Long (num 4 s v))
    (pick (eqb t (chars "comp")) (vt.Comp (num 8 s v))
    (pick (eqb t (chars "doub")) (vt.Double (of_bits binary64 (num 8 s v)))
    (pick (eqb t (chars "UntF")) (vt.UnitDouble (num 4 s v) (of_bits binary64 (num 8 s (v + 4)))) vt.Other))))

abbrev pub typed_of : List ℕ → RowAnswer → Res Typed
typed_of s (found r) = ok (typed_in s r.kind r.value) 0
typed_of s (missing x p) = refuse x p 0 0

-- the code's answer
abbrev pub told_typed : Result Typed Refusal → Res Typed
told_typed r = told (λ t. ok t 0) r
