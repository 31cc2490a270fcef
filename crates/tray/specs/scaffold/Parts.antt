-- Scaffolding: the passes over a run, in private contracts. What is public cites nothing of it.
use Rattle.std.specs.Prelude.{ℕ, ◌-◌, ◌<◌, ◌≡◌, Bool, true, false, ◌||◌, List, [], length, get_or, leb, eqb, Option, Some, None}
use Rattle.std.specs.Float.{binary32}
use Rattle.std.specs.Float.Ieee.{of_bits, to_bits}
use Rattle.algebra.specs.Chars.{chars}
use Rattle.colour.specs.Channels.{in_unit}
use Rattle.conversion.specs.Convert.{Converted, gives, refused}
use Rattle.conversion.specs.Scale.{channel_of, sample_of_bits}

-- the elements before i all pass a test
abbrev pub Passed : (ℕ → Bool) → List ℕ → ℕ → Type 0
Passed ok xs i = (j : ℕ) → j < i → ok (get_or xs j 0) ≡ true

-- the first element that fails it, where one does
abbrev pub First : (ℕ → Bool) → List ℕ → Option ℕ → Type 0
First ok xs (Some i) = (i < length xs) × Passed ok xs i × (ok (get_or xs i 0) ≡ false)
First ok xs None = Passed ok xs (length xs)

-- what is had of each element is what g gives for it
abbrev pub Gives : {A B : Type 0} → (A → B → Type 0) → (A → B) → List A → Type 0
Gives {A} {B} Had g xs = (j : ℕ) (x : A) (y : B) → j < length xs → x ≡ get_or xs j x → Had x y → y ≡ g x

-- a gray sample on its scale
abbrev pub low : ℕ → Bool
low v = leb v 10000

-- a channel from 0 to 1, by its bits
abbrev pub unit : ℕ → Bool
unit b = in_unit (of_bits binary32 b)

-- what an element becomes: a sample the bits of its channel on a scale to n, in CMYK those of what is left of the scale; a channel of CMYK what is left by its sample
abbrev pub plain : ℕ → ℕ → ℕ
plain n v = to_bits binary32 (channel_of n v)

abbrev pub turned : ℕ → ℕ
turned v = to_bits binary32 (channel_of 65535 (65535 - v))

abbrev pub inked : ℕ → ℕ
inked b = 65535 - sample_of_bits 65535 b

-- the tag of a model that has a space
abbrev pub converted : ℕ → Bool
converted t = (eqb t (chars "RGB ") || eqb t (chars "CMYK")) || eqb t (chars "Gray")

-- the results, where no element is refused
abbrev pub results : Converted (List ℕ) → List ℕ
results (gives ys) = ys
results (refused n k) = []

-- what judging answers
abbrev pub judged : Converted (List ℕ) → Converted Unit
judged (gives ys) = gives tt
judged (refused n k) = refused n k
