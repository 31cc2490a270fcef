-- The first fault of blocks that are written, given or as values, by its number of the refusal table; 0 is none.
use Rattle.std.specs.Prelude.{ℕ, ◌+◌, ◌^◌, ◌<◌, ◌≡◌, List, leb, ltb, eqb, length}
use Rattle.algebra.specs.Numbers.{All}
use Rattle.algebra.specs.Reader.{pick, state_after}
use Rattle.algebra.specs.Text.{any_zero}
use Rattle.algebra.specs.Faults.{first_of, faults_from, faults_in}
use Rattle.colour.specs.Models.{is_model, channels_of}
use Rattle.colour.specs.Channels.{allows_bits}
use Rattle.ase.specs.Grammar.{Block, group_start, group_end, colour, other, Unknown}
use Rattle.ase.specs.Reading.{deepest, open_after}

-- a name that was found with the fault x, 0 where it is a value: x first, then a zero unit is 8
abbrev pub name_fault : ℕ → List ℕ → ℕ
name_fault x us = first_of x (pick (any_zero us) 8 0)

-- a channel that the model does not allow is 5
abbrev pub channel_fault : ℕ → ℕ → ℕ
channel_fault t b = pick (allows_bits t b) 0 5

-- a number that is no ink is 5; process and not stated, which no file has, are refused after all other faults, by the writer
abbrev pub type_fault : ℕ → ℕ
type_fault k = pick (leb k 4) 0 5

-- a colour behind its name: model, channels, type
unfoldable pub colour_fault : ℕ → List ℕ → ℕ → ℕ
colour_fault t bs k = first_of (pick (is_model t) 0 4) (first_of (faults_from (λ i b. channel_fault t b) 0 bs) (type_fault k))

-- a block whose name was found with the fault x, where d groups stand open; an unknown type is 4
unfoldable pub block_fault : ℕ → ℕ → Block → ℕ
block_fault x d (group_start us) = first_of (pick (ltb d deepest) 0 10) (name_fault x us)
block_fault x d group_end = pick (ltb 0 d) 0 9
block_fault x d (colour us t bs k) = first_of (name_fault x us) (colour_fault t bs k)
block_fault x d (other t) = 4

-- blocks in their order, where d groups stand open, and after the last a group that is left open; each is what `block` makes of it, its name found as `found` says
unfoldable pub blocks_fault : {A : Type 0} → (A → ℕ) → (A → Block) → ℕ → List A → ℕ
blocks_fault found block d l =
    first_of (faults_in (λ e a. open_after e (block a)) (λ e a. block_fault (found a) e (block a)) d l)
    (pick (eqb (state_after (λ e a. open_after e (block a)) d l) 0) 0 9)

-- blocks as values
abbrev pub palette_fault : List Block → ℕ
palette_fault bs = blocks_fault (λ b. 0) (λ b. b) 0 bs

-- a name whose numbers fit their fields, whether or not they are allowed
pub record NameFits (us : List ℕ) : Type 0 where
  pub counted : length us + 1 < 256 ^ 2
  pub units : All (λ k u. u < 256 ^ 2) 0 us

-- a colour has as many channels as its model; one of an unknown model has none
pub record ColourFits (us : List ℕ) (t : ℕ) (bs : List ℕ) (k : ℕ) : Type 0 where
  pub name : NameFits us
  pub model : t < 256 ^ 4
  pub all : length bs ≡ channels_of t
  pub channels : All (λ i b. b < 256 ^ 4) 0 bs
  pub type : k < 256 ^ 2
  -- 14 aside
  pub no_process : k ≡ 3 → ⊥
  pub no_unstated : k ≡ 4 → ⊥

abbrev pub BlockFits : Block → Type 0
BlockFits (group_start us) = NameFits us
BlockFits group_end = Unit
BlockFits (colour us t bs k) = ColourFits us t bs k
BlockFits (other t) = Unknown t
