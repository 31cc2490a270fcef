-- What each exported answer about descriptors says: refusal number 0 is accepted, and all that an answer does not have is 0.
use Rattle.std.specs.Prelude.{ℕ, List, Bool, true, false}
use Rattle.std.specs.Float.{binary64}
use Rattle.std.specs.Float.Ieee.{to_bits}
use Rattle.algebra.specs.Chars.{chars}
use Rattle.algebra.specs.Reader.{Res, ok, refuse}
use Rattle.descriptor_judge.specs.Answer.{Verdict, accepted, refused}
use Rattle.descriptor_read.specs.Values.{Place, span, refusal}
use Rattle.descriptor_read.specs.declared.Typed.{Typed}
use Rattle.descriptor_read.specs.declared.Typed.TheVariants as vt
use Rattle.khuyurek.specs.declared.columns.Parents.{Parents}
use Rattle.khuyurek.specs.declared.descriptors.DescriptorAnswer.{DescriptorAnswer}
use Rattle.khuyurek.specs.declared.descriptors.DescriptorValue.{DescriptorValue}
use Rattle.khuyurek.specs.declared.descriptors.DescriptorTyped.{DescriptorTyped}

abbrev pub answer_of : Verdict → DescriptorAnswer
answer_of (accepted n) = record { number = 0; place = 0; rows = n }
answer_of (refused x p) = record { number = x; place = p; rows = 0 }

-- an answer, and what the lent run then holds
abbrev pub read_of : Verdict × List ℕ → DescriptorAnswer × List ℕ
read_of v = (answer_of v.0, v.1)

abbrev pub parents_of : Verdict → Parents
parents_of (accepted n) = record { number = 0; rows = n }
parents_of (refused x p) = record { number = x; rows = 0 }

abbrev pub parented_of : Verdict × List ℕ → Parents × List ℕ
parented_of v = (parents_of v.0, v.1)

abbrev pub value_of : Place → DescriptorValue
value_of (span v n) = record { number = 0; place = 0; first = v; size = n }
value_of (refusal x p) = record { number = x; place = p; first = 0; size = 0 }

-- ---- values by their kind

abbrev pub flag_of : Bool → ℕ
flag_of true = 1
flag_of false = 0

abbrev pub kinded : ℕ → ℕ → ℕ → DescriptorTyped
kinded k u b = record { number = 0; kind = k; place = 0; unit = u; bits = b }

-- `bool`, `long`, `comp`, `doub` and `UntF` by their four characters, a double by its bits; of other kinds all is 0
abbrev pub typed_as : Typed → DescriptorTyped
typed_as (vt.Bool b) = kinded (chars "bool") 0 (flag_of b)
typed_as (vt.Long n) = kinded (chars "long") 0 n
typed_as (vt.Comp n) = kinded (chars "comp") 0 n
typed_as (vt.Double x) = kinded (chars "doub") 0 (to_bits binary64 x)
typed_as (vt.UnitDouble u x) = kinded (chars "UntF") u (to_bits binary64 x)
typed_as vt.Other = kinded 0 0 0

-- the same, or a refusal
abbrev pub typed_answer : Res Typed → DescriptorTyped
typed_answer (ok t q) = typed_as t
typed_answer (refuse x p r f) = record { number = x; kind = 0; place = p; unit = 0; bits = 0 }
