-- The first fault of swatches that are written, given or as values, by its number of the refusal table; 0 is none.
use Rattle.std.specs.Prelude.{ℕ, ◌+◌, ◌^◌, ◌<◌, ◌≡◌, List, leb, length}
use Rattle.algebra.specs.Numbers.{All}
use Rattle.algebra.specs.Reader.{pick}
use Rattle.algebra.specs.Text.{any_zero}
use Rattle.algebra.specs.Faults.{first_of, faults, faults_from}
use Rattle.colour.specs.Spaces.{known, allowed}
use Rattle.aco.specs.Grammar.{Swatch}

-- an unknown space is 4
abbrev pub space_fault : ℕ → ℕ
space_fault x = pick (known x) 0 4

-- sample k of a colour of the space x: a value that is not allowed is 5
abbrev pub sample_fault : ℕ → ℕ → ℕ → ℕ
sample_fault x k v = pick (allowed x k v) 0 5

-- a colour's fields in their order
unfoldable pub fields_fault : ℕ → List ℕ → ℕ
fields_fault x vs = first_of (space_fault x) (faults_from (sample_fault x) 0 vs)

abbrev pub colour_fault : Swatch → ℕ
colour_fault w = fields_fault w.space w.samples

-- a name that was found with the fault x, 0 where it is a value: x first, then a zero unit is 8
abbrev pub name_fault : ℕ → List ℕ → ℕ
name_fault x us = first_of x (pick (any_zero us) 8 0)

-- too many colours are 5, then the colours, then the names; each swatch is what `swatch` makes of it, its name found as `found` says
unfoldable pub swatches_fault : {A : Type 0} → (A → ℕ) → (A → Swatch) → List A → ℕ
swatches_fault found swatch l =
    first_of (pick (leb (length l) 4096) 0 5)
    (first_of (faults (λ a. colour_fault (swatch a)) l) (faults (λ a. name_fault (found a) (swatch a).name) l))

-- a palette of swatches as values
abbrev pub palette_fault : List Swatch → ℕ
palette_fault ws = swatches_fault (λ w. 0) (λ w. w) ws

-- a swatch whose numbers fit their fields, whether or not they are allowed
pub record Fits (w : Swatch) : Type 0 where
  pub small : w.space < 256 ^ 2
  pub four : length w.samples ≡ 4
  pub each_small : All (λ k v. v < 256 ^ 2) 0 w.samples
  pub counted : length w.name + 1 < 256 ^ 4
  pub units : All (λ k u. u < 256 ^ 2) 0 w.name
