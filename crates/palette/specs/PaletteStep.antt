-- A palette's colours one a call: where they start, and what a call from any place of any file gives, as numbers.
use Rattle.std.specs.Prelude.{ℕ, List, [], ◌∷◌, get_or}
use Rattle.colour.specs.Models.{traits_of}
use Rattle.colour.specs.Channels.{bits_of, model_in}
use Rattle.colour.specs.declared.space.Colour.{Colour}
use Rattle.colour.specs.declared.channel.Channels.{Channels}
use Rattle.conversion.specs.Convert.{Converted, gives as converted, refused as unconverted, to_channels}
use Rattle.ase.specs.Row.{RecordRow}
use Rattle.walk.specs.Walk.{Call, gives, over, refused}
use Rattle.aco_walk.specs.Walking.{walk, first_place}
use Rattle.aco_walk.specs.Answer.{call_and_place}
use Rattle.ase_walk.specs.Walking.{walk as aseWalk, first_place as aseFirst}
use Rattle.ase_walk.specs.Answer.{call_and_place as aseCall}
use Rattle.palette.specs.declared.Kind.{Kind}
use Rattle.palette.specs.declared.Kind.TheVariants.{Aco, Ase}
use Rattle.palette.specs.declared.View.{View}
use Rattle.palette.specs.declared.View.TheVariants.{Samples, Counterparts, Channels as ChannelBits}
use Rattle.palette.specs.declared.Numbers.{Numbers}
use Rattle.palette.specs.declared.PaletteStep.{PaletteStep}

-- the place of the first colour
abbrev pub first_at : Kind → List ℕ → ℕ
first_at Aco s = first_place s
first_at Ase s = aseFirst s

-- how a colour of a kind is seen beside one of another kind: as it is; an ACO colour beside an ASE colour as its counterpart
abbrev pub view_of : Kind → Kind → View
view_of Aco Aco = Samples
view_of Aco Ase = Counterparts
view_of Ase Aco = ChannelBits
view_of Ase Ase = ChannelBits

-- ---- a colour as five numbers

abbrev pub five : ℕ → List ℕ → List ℕ
five t vs = t ∷ get_or vs 0 0 ∷ get_or vs 1 0 ∷ get_or vs 2 0 ∷ get_or vs 3 0 ∷ []

-- the tag of a model and the bits of its channels
abbrev pub channel_numbers : Channels → List ℕ
channel_numbers c = five (traits_of (model_in c)).tag (bits_of c)

-- zeros, as no model has the tag 0
abbrev pub no_numbers : List ℕ
no_numbers = five 0 []

abbrev pub counterpart_of : Converted Channels → List ℕ
counterpart_of (converted c) = channel_numbers c
counterpart_of (unconverted n p) = no_numbers

-- an ACO colour as it is, and as the channels that it converts to; zeros where it has no counterpart
abbrev pub colour_numbers : View → Colour → List ℕ
colour_numbers Samples c = five c.space c.samples
colour_numbers Counterparts c = counterpart_of (to_channels c)
colour_numbers ChannelBits c = no_numbers

-- ---- a call: the five numbers, the place and units of the name, and the place of the next call

-- no colour: zeros
abbrev pub no_colour : ℕ → List ℕ × ℕ × ℕ × ℕ
no_colour q = (no_numbers, 0, 0, q)

-- by what the walk over ACO hands out: a colour by value, its name by place and units, and the next place
abbrev pub aco_given : View → Colour → Call (ℕ × ℕ × ℕ) → ℕ → List ℕ × ℕ × ℕ × ℕ
aco_given v c (gives l) q = (colour_numbers v c, l.0, l.1, q)
aco_given v c over q = no_colour q
aco_given v c (refused x p) q = no_colour q

abbrev pub aco_step : View → Colour × Call (ℕ × ℕ × ℕ) × ℕ → List ℕ × ℕ × ℕ × ℕ
aco_step v h = aco_given v h.0 h.1 h.2

-- by what the walk over ASE hands out, and the next place
abbrev pub ase_given : Call RecordRow → ℕ → List ℕ × ℕ × ℕ × ℕ
ase_given (gives g) q = (five g.model g.channels, g.first, g.units, q)
ase_given over q = no_colour q
ase_given (refused x p) q = no_colour q

abbrev pub ase_step : Call RecordRow × ℕ → List ℕ × ℕ × ℕ × ℕ
ase_step h = ase_given h.0 h.1

-- a call of the walk over ACO, or over ASE
abbrev pub step_of : View → List ℕ → ℕ → List ℕ × ℕ × ℕ × ℕ
step_of Samples s at = aco_step Samples (call_and_place (walk s at))
step_of Counterparts s at = aco_step Counterparts (call_and_place (walk s at))
step_of ChannelBits s at = ase_step (aseCall (aseWalk s at))

-- ---- what each answer of the code says

abbrev pub told_numbers : Numbers → List ℕ
told_numbers n = n.tag ∷ n.numbers

abbrev pub told_palette_step : PaletteStep → List ℕ × ℕ × ℕ × ℕ
told_palette_step r = (told_numbers r.numbers, r.place, r.units, r.next)
