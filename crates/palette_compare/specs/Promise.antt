-- When two palettes are the same, said without a test: words of the theorems.
use Rattle.std.specs.Prelude.{ℕ, ◌≡◌, List, [], ◌∷◌, eqb}
use Rattle.algebra.specs.Reader.{pick}
use Rattle.colour.specs.Models.{traits_of}
use Rattle.colour.specs.Channels.{bits_of, model_in}
use Rattle.colour.specs.declared.channel.Channels.{Channels}
use Rattle.conversion.specs.Convert.{gives, to_channels}
use Rattle.palette.specs.Palette.{Value, samples, channels, PaletteColour}

-- an ACO colour and the ASE colour that it converts to
abbrev pub Counterpart : Value → Value → Type 0
Counterpart (samples x vs) (channels t bs) = (c : Channels) × (to_channels (record { space = x; samples = vs }) ≡ gives c) × ((traits_of (model_in c)).tag ≡ t) × (bits_of c ≡ bs)
Counterpart (samples x vs) (samples y ws) = ⊥
Counterpart (channels t bs) v = ⊥

-- equal values: of one format the very same numbers, else one is the other's counterpart
pub data SameColour : Value → Value → Type 0 where
  itself : {v : Value} → SameColour v v
  first_converts : {v w : Value} → Counterpart v w → SameColour v w
  second_converts : {v w : Value} → Counterpart w v → SameColour v w

-- as many colours in the one as in the other, equal one by one, and their names
pub data SamePalette : List PaletteColour → List PaletteColour → Type 0 where
  none : SamePalette [] []
  one : {x y : PaletteColour} {xs ys : List PaletteColour} → SameColour x.value y.value → x.name ≡ y.name → SamePalette xs ys → SamePalette (x ∷ xs) (y ∷ ys)

-- only in the first becomes only in the second, and the other way round
abbrev pub exchanged : ℕ → ℕ
exchanged k = pick (eqb k 4) 5 (pick (eqb k 5) 4 k)
