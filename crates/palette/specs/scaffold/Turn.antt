-- Scaffolding: what a loop over the calls knows of colour i; cited by private contracts and by proofs.
use Rattle.std.specs.Prelude.{ℕ, ◌≤◌, ◌<◌, ◌^◌, ◌≡◌, List, [], length}
use Rattle.algebra.specs.Numbers.{be, joined, All}
use Rattle.algebra.specs.Reader.{Res, ok, refuse}
use Rattle.walk.specs.Walk.{place_after}
use Rattle.walk.specs.Names.{name_part}
use Rattle.aco_walk.specs.Walking.{walk, first_place}
use Rattle.ase_walk.specs.Walking.{walk as aseWalk, first_place as aseFirst}
use Rattle.palette.specs.Palette.{Value, samples, channels, PaletteColour, colours}
use Rattle.palette.specs.PaletteStep.{five, colour_numbers, step_of}
use Rattle.palette.specs.declared.Kind.{Kind}
use Rattle.palette.specs.declared.Kind.TheVariants.{Aco, Ase}
use Rattle.palette.specs.declared.View.{View}
use Rattle.palette.specs.declared.View.TheVariants.{Samples, Counterparts, Channels as ChannelBits}

-- the colours of an accepted file; none of a refused one
abbrev pub list_of : {A : Type 0} → Res (List A) → List A
list_of (ok xs q) = xs
list_of (refuse x p r f) = []

abbrev pub colours_in : Kind → List ℕ → List PaletteColour
colours_in k s = list_of (colours k s)

abbrev pub no_colour_at : PaletteColour
no_colour_at = record { value = channels 0 []; name = [] }

-- the place of colour i
unfoldable pub place_of : Kind → List ℕ → ℕ → ℕ
place_of Aco s i = place_after (walk s) (first_place s) i
place_of Ase s i = place_after (aseWalk s) (aseFirst s) i

-- which kind a view is of
abbrev pub kind_seen : View → Kind
kind_seen Samples = Aco
kind_seen Counterparts = Aco
kind_seen ChannelBits = Ase

-- a value as the five numbers that a view gives of it
abbrev pub value_numbers : View → Value → List ℕ
value_numbers v (samples x vs) = colour_numbers v (record { space = x; samples = vs })
value_numbers v (channels t bs) = five t bs

-- a value of a kind: four numbers, and in ASE a tag that is not 0
abbrev pub SoundValue : Kind → Value → Type 0
SoundValue Aco (samples x vs) = length vs ≡ 4
SoundValue Aco (channels t bs) = ⊥
SoundValue Ase (samples x vs) = ⊥
SoundValue Ase (channels t bs) = (length bs ≡ 4) × (t ≡ 0 → ⊥)

-- a call from place p gives the colour x and leaves the place q
pub record Turn (k : Kind) (v : View) (s : List ℕ) (p : ℕ) (x : PaletteColour) (q : ℕ) : Type 0 where
  pub place : ℕ
  pub units : ℕ
  pub step : step_of v s p ≡ (value_numbers v x.value, place, units, q)
  pub name : name_part s place units ≡ joined (be 2) x.name
  pub many : units ≡ length x.name
  pub fit : All (λ j u. u < 256 ^ 2) 0 x.name
  pub sound : SoundValue k x.value
  pub moves : p < q
  pub inside : q ≤ length s
