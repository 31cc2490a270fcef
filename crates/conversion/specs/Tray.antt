-- A run of samples to channels, or of channels to samples: one definition over the element's own conversion.
use Rattle.std.specs.Prelude.{ℕ, ◌+◌, List, [], ◌∷◌, ◌++◌, length, drop, leb}
use Rattle.std.specs.Float.{binary32}
use Rattle.std.specs.Float.Ieee.{to_bits}
use Rattle.algebra.specs.Reader.{pick}
use Rattle.conversion.specs.Convert.{Converted, gives, refused, and_then, to_channel, to_sample}

-- a refusal with the position of its element in the place's stead
abbrev pub at_position : {B : Type 0} → ℕ → Converted B → Converted B
at_position k (gives y) = gives y
at_position k (refused n p) = refused n k

-- the elements from position k, each converted, in their order; or the first of them that is refused, with its position
unfoldable pub converted_in_order : {A B : Type 0} → (A → Converted B) → ℕ → List A → Converted (List B)
converted_in_order f k [] = gives []
converted_in_order f k (x ∷ xs) = and_then (at_position k (f x)) (λ y. and_then (converted_in_order f (k + 1) xs) (λ ys. gives (y ∷ ys)))

-- into a lent run: 11 with position 0 exactly when it is shorter than the results; past them it keeps its contents; a refusal changes nothing
abbrev pub lent : Converted (List ℕ) → List ℕ → Converted Unit × List ℕ
lent (refused n k) out = (refused n k, out)
lent (gives ys) out = pick (leb (length ys) (length out)) (gives tt, ys ++ drop (length ys) out) (refused 11 0, out)

abbrev pub tray : {A : Type 0} → (A → Converted ℕ) → List A → List ℕ → Converted Unit × List ℕ
tray f xs out = lent (converted_in_order f 0 xs) out

-- a sample of a space as the bits of its channel
abbrev pub to_bits_of : ℕ → ℕ → Converted ℕ
to_bits_of x v = and_then (to_channel x v) (λ c. gives (to_bits binary32 c))

-- samples of one space, and channels of the model with a tag by their bits
abbrev pub channels_of : ℕ → List ℕ → List ℕ → Converted Unit × List ℕ
channels_of x vs out = tray (to_bits_of x) vs out

abbrev pub samples_of : ℕ → List ℕ → List ℕ → Converted Unit × List ℕ
samples_of t bs out = tray (to_sample t) bs out
