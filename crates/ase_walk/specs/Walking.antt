-- The blocks and the colours of an ASE file one a call: what a call from any place of any file gives, and where a walk starts.
use Rattle.std.specs.Prelude.{ℕ, ◌-◌, List, [], Bool, true, false, leb, length}
use Rattle.algebra.specs.Reader.{Res, ok, refuse, Reader, pick}
use Rattle.ase.specs.Reading.{Entry, group_start_read, group_end_read, colour_read, block}
use Rattle.walk.specs.Walk.{Call, Step, step, seek}
use Rattle.ase_walk.specs.declared.Walker.{Walker}

-- ---- a block at a place

-- as the layout allows it; a walk does not count groups, and reads every block as where one stands open, so that one may start or end
abbrev pub block_from : Reader Entry
block_from = block 1

-- the rule of the block step: done at the file's end; the block that the layout allows at its place; else 5 at place 0
abbrev pub block_walk : List ℕ → Step Entry
block_walk s = step block_from s

-- ---- a colour from a place on

abbrev pub is_a_colour : Entry → Bool
is_a_colour (group_start_read nm) = false
is_a_colour group_end_read = false
is_a_colour (colour_read nm t bs k) = true

-- the rule of every walker, altered or not: groups are passed over, and the first colour is given; where the blocks end without one it is done; else 5 at place 0
abbrev pub walk : List ℕ → Step Entry
walk s at = seek is_a_colour (block_walk s) (length s - at) at

-- ---- the start

-- behind the heading; a file that is too short for one has nothing to give
unfoldable pub first_place : List ℕ → ℕ
first_place s = pick (leb 12 (length s)) 12 (length s)

-- a walker is lent an accepted file, and no bytes of a refused one
abbrev pub lent_of : Res (List Entry) → List ℕ → List ℕ
lent_of (ok es q) s = s
lent_of (refuse x p r f) s = []

-- where it starts, or the file's own refusal
pub data Started : Type 0 where
  starts : ℕ → Started
  refusal : ℕ → ℕ → Started

abbrev pub start_of : Res (List Entry) → List ℕ → Started
start_of (ok es q) s = starts (first_place s)
start_of (refuse x p r f) s = refusal x p

-- ---- the walker

-- what a call of it gives, and the place that the call leaves
abbrev pub called : Walker → Call Entry × ℕ
called w = walk w.file.now w.at

-- the walker that follows: over the same file, at that place
abbrev pub following : Walker → Walker
following w = record { file = w.file; at = (called w).1 }
