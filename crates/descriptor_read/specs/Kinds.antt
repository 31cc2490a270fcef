-- What a row's value is by its kind, over the bytes that stand behind its type. Nothing here reads.
use Rattle.std.specs.Prelude.{ℕ, ◌^◌, ◌<◌, ◌≡◌, true, false, List, [], ◌∷◌, ◌++◌}
use Rattle.std.specs.Float.{binary64}
use Rattle.std.specs.Float.Ieee.{of_bits}
use Rattle.algebra.specs.Chars.{chars}
use Rattle.algebra.specs.Numbers.{be}
use Rattle.algebra.specs.Reader.{Res, ok, refuse}
use Rattle.algebra.specs.Refusal.{one_of}
use Rattle.descriptor_read.specs.declared.Typed.{Typed}
use Rattle.descriptor_read.specs.declared.Typed.TheVariants as vt

-- `bool`, `long`, `comp`, `doub`, `UntF`
abbrev pub typed : List ℕ
typed = chars "bool" ∷ chars "long" ∷ chars "comp" ∷ chars "doub" ∷ chars "UntF" ∷ []

-- a value of a kind, with these bytes: a `bool` is 0, false, or 1, true; a `long` and a `comp` are their bits; a `doub` is the double of its bits;
-- an `UntF` is its unit and its double; other kinds have none
pub data Says : ℕ → List ℕ → Typed → Type 0 where
  no : Says (chars "bool") (0 ∷ []) (vt.Bool false)
  yes : Says (chars "bool") (1 ∷ []) (vt.Bool true)
  long : (n : ℕ) → n < 256 ^ 4 → Says (chars "long") (be 4 n) (vt.Long n)
  comp : (n : ℕ) → n < 256 ^ 8 → Says (chars "comp") (be 8 n) (vt.Comp n)
  double : (n : ℕ) → n < 256 ^ 8 → Says (chars "doub") (be 8 n) (vt.Double (of_bits binary64 n))
  unit_double : (u n : ℕ) → u < 256 ^ 4 → n < 256 ^ 8 → Says (chars "UntF") (be 4 u ++ be 8 n) (vt.UnitDouble u (of_bits binary64 n))
  other : {kind : ℕ} {b : List ℕ} → one_of typed kind ≡ false → Says kind b vt.Other

-- the same of an answer, which is then no refusal
abbrev pub Answers : ℕ → List ℕ → Res Typed → Type 0
Answers kind b (ok t q) = Says kind b t
Answers kind b (refuse x p r f) = ⊥
