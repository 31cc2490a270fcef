-- Samples and channels: one sample of a space to a channel, one channel of a model to a sample, and a whole colour to its channels.
use Rattle.std.specs.Prelude.{ℕ, ◌-◌, Bool, eqb, get_or, Float, Option, Some, None}
use Rattle.std.specs.Float.{binary32}
use Rattle.std.specs.Float.Ieee.{of_bits, to_bits}
use Rattle.algebra.specs.Reader.{pick}
use Rattle.colour.specs.Models.{traits_of, model_of}
use Rattle.colour.specs.Spaces.{rgb, cmyk, gray, full, known, allowed}
use Rattle.colour.specs.Channels.{allows}
use Rattle.conversion.specs.Scale.{channel_of, sample_of}
use Rattle.colour.specs.declared.model.Model.{Model}
use Rattle.colour.specs.declared.model.Model.TheVariants.{Rgb, Cmyk, Lab, Gray}
use Rattle.colour.specs.declared.space.Colour.{Colour}
use Rattle.colour.specs.declared.channel.Channels.{Channels}
use Rattle.colour.specs.declared.channel.Channels.TheVariants as channels

-- what a conversion gives, or a refusal: its number and its place
pub data Converted (A : Type 0) : Type 0 where
  gives : A → Converted A
  refused : ℕ → ℕ → Converted A

-- of a space without a model: a known one has no counterpart, 14; an unknown one is 4
abbrev pub unmatched : Bool → ℕ
unmatched is_known_model = pick is_known_model 14 4

-- the sample v of a space with a model, of which n is divided by the full scale: 5 where the space does not allow v
abbrev pub channel_by : ℕ → ℕ → ℕ → Converted Float
channel_by x v n = pick (allowed x 0 v) (gives (channel_of (full x) n)) (refused 5 0)

-- RGB and gray: the sample as a channel. CMYK: what is left of the full scale, since ACO counts 0 as full ink.
unfoldable pub to_channel : ℕ → ℕ → Converted Float
to_channel x v =
    pick (eqb x rgb) (channel_by x v v)
    (pick (eqb x cmyk) (channel_by x v (full x - v))
    (pick (eqb x gray) (channel_by x v v)
    (refused (unmatched (known x)) 0)))

-- a channel that the model allows: the nearest sample, in CMYK then taken from the full scale; Lab has no counterpart, 14
abbrev pub sample_on : Model → Float → Converted ℕ
sample_on Rgb x = gives (sample_of (traits_of Rgb).full x)
sample_on Cmyk x = gives ((traits_of Cmyk).full - sample_of (traits_of Cmyk).full x)
sample_on Lab x = refused 14 0
sample_on Gray x = gives (sample_of (traits_of Gray).full x)

-- by whether the model allows it; 5 where it does not
abbrev pub sample_by : Bool → Model → Float → Converted ℕ
sample_by allowed m x = pick allowed (sample_on m x) (refused 5 0)

abbrev pub sample_in : Model → Float → Converted ℕ
sample_in m x = sample_by (allows m x) m x

-- before all that, 4 where no model has the tag
abbrev pub sample_found : Option Model → Float → Converted ℕ
sample_found (Some m) x = sample_in m x
sample_found None x = refused 4 0

-- a channel by its bits, of the model with a tag
abbrev pub to_sample : ℕ → ℕ → Converted ℕ
to_sample t b = sample_found (model_of t) (of_bits binary32 b)

-- ---- a whole colour

-- what a conversion gives is handed on, and a refusal stays
abbrev pub and_then : {A B : Type 0} → Converted A → (A → Converted B) → Converted B
and_then (gives x) f = f x
and_then (refused n p) f = refused n p

-- the channel of sample k of a colour
abbrev pub channel_at : Colour → ℕ → Converted Float
channel_at c k = to_channel c.space (get_or c.samples k 0)

-- a colour's samples in turn, gray one, RGB three and CMYK four, as the channels of a colour of its model; the first that is refused refuses it.
-- Samples that the space does not use are left alone
unfoldable pub to_channels : Colour → Converted Channels
to_channels c =
    and_then (channel_at c 0) (λ p.
    pick (eqb c.space gray) (gives (channels.Gray p))
    (and_then (channel_at c 1) (λ q. and_then (channel_at c 2) (λ r.
    pick (eqb c.space cmyk) (and_then (channel_at c 3) (λ t. gives (channels.Cmyk p q r t)))
    (gives (channels.Rgb p q r))))))

-- ---- there and back

-- a space and the model that its samples become channels of
pub data Counterparts : ℕ → Model → Type 0 where
  lights : Counterparts rgb Rgb
  inks : Counterparts cmyk Cmyk
  grays : Counterparts gray Gray

-- a channel that a sample became, by its bits, as a sample of the model with a tag
abbrev pub back : ℕ → Converted Float → Converted ℕ
back t (gives x) = to_sample t (to_bits binary32 x)
back t (refused n p) = refused n p
