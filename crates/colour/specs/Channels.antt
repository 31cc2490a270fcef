-- Channels: which floats a model allows, and a colour by its channels' bits.
use Rattle.std.specs.Prelude.{ℕ, Bool, true, false, ◌&&◌, List, [], ◌∷◌, pos, Float, Option, Some, None, Result, Ok, Err}
use Rattle.std.specs.Float.{fin, binary32}
use Rattle.std.specs.Float.Ieee.{le, of_bits, to_bits}
use Rattle.std.specs.Float.Ieee.Scale.{finite}
use Rattle.algebra.specs.Reader.{pick}
use Rattle.fault.specs.declared.Fault.{Fault}
use Rattle.fault.specs.declared.Fault.TheVariants as fault
use Rattle.colour.specs.Models.{model_of}
use Rattle.colour.specs.declared.model.Model.{Model}
use Rattle.colour.specs.declared.model.Model.TheVariants as model
use Rattle.colour.specs.declared.channel.Channels.{Channels}
use Rattle.colour.specs.declared.channel.Channels.TheVariants.{Rgb, Cmyk, Lab, Gray}

-- ---- which channels a model allows

-- `fin` is a float by sign, mantissa and exponent: 0, and 1
abbrev pub zero_float : Float
zero_float = fin false 0 (pos 0)

abbrev pub one_float : Float
one_float = fin false 1 (pos 0)

-- from 0 to 1: a NaN and the infinities are not, and minus zero is
unfoldable pub in_unit : Float → Bool
in_unit x = le zero_float x && le x one_float

-- Lab's channels may be any finite float
abbrev pub wide : Model → Bool
wide model.Rgb = false
wide model.Cmyk = false
wide model.Lab = true
wide model.Gray = false

-- finite, and from 0 to 1 save in Lab
abbrev pub allows : Model → Float → Bool
allows m x = pick (wide m) (finite x) (in_unit x)

abbrev pub allows_in : Option Model → ℕ → Bool
allows_in (Some m) b = allows m (of_bits binary32 b)
allows_in None b = false

-- the model with a tag allows a channel with these bits
unfoldable pub allows_bits : ℕ → ℕ → Bool
allows_bits t b = allows_in (model_of t) b

-- ---- a colour from the bits of its channels; bits that its model does not use are left alone

abbrev pub channel : ℕ → Float
channel b = of_bits binary32 b

-- what is so of each channel that the model has
abbrev pub of_all : Model → Bool → Bool → Bool → Bool → Bool
of_all model.Rgb x y z w = x && y && z
of_all model.Cmyk x y z w = x && y && z && w
of_all model.Lab x y z w = x && y && z
of_all model.Gray x y z w = x

-- the model allows each channel that it has
abbrev pub allows_all : Model → ℕ → ℕ → ℕ → ℕ → Bool
allows_all m a b c d = of_all m (allows m (channel a)) (allows m (channel b)) (allows m (channel c)) (allows m (channel d))

-- the colour of the model with these channels
abbrev pub colour_of : Model → ℕ → ℕ → ℕ → ℕ → Channels
colour_of model.Rgb a b c d = Rgb (channel a) (channel b) (channel c)
colour_of model.Cmyk a b c d = Cmyk (channel a) (channel b) (channel c) (channel d)
colour_of model.Lab a b c d = Lab (channel a) (channel b) (channel c)
colour_of model.Gray a b c d = Gray (channel a)

-- the same where the model allows them
abbrev pub made : Model → ℕ → ℕ → ℕ → ℕ → Result Channels Fault
made m a b c d = pick (allows_all m a b c d) (Ok (colour_of m a b c d)) (Err fault.OutOfRange)

-- the same of the model that a tag has
abbrev pub made_in : Option Model → ℕ → ℕ → ℕ → ℕ → Result Channels Fault
made_in (Some m) a b c d = made m a b c d
made_in None a b c d = Err fault.Unknown

-- the bits of a colour's channels, and 0 for those that its model does not use
abbrev pub bits_of : Channels → List ℕ
bits_of (Rgb x y z) = to_bits binary32 x ∷ to_bits binary32 y ∷ to_bits binary32 z ∷ 0 ∷ []
bits_of (Cmyk x y z w) = to_bits binary32 x ∷ to_bits binary32 y ∷ to_bits binary32 z ∷ to_bits binary32 w ∷ []
bits_of (Lab x y z) = to_bits binary32 x ∷ to_bits binary32 y ∷ to_bits binary32 z ∷ 0 ∷ []
bits_of (Gray x) = to_bits binary32 x ∷ 0 ∷ 0 ∷ 0 ∷ []

-- the same of the bits that a colour was made of
abbrev pub used : Model → ℕ → ℕ → ℕ → ℕ → List ℕ
used model.Rgb a b c d = a ∷ b ∷ c ∷ 0 ∷ []
used model.Cmyk a b c d = a ∷ b ∷ c ∷ d ∷ []
used model.Lab a b c d = a ∷ b ∷ c ∷ 0 ∷ []
used model.Gray a b c d = a ∷ 0 ∷ 0 ∷ 0 ∷ []

abbrev pub model_in : Channels → Model
model_in (Rgb x y z) = model.Rgb
model_in (Cmyk x y z w) = model.Cmyk
model_in (Lab x y z) = model.Lab
model_in (Gray x) = model.Gray
