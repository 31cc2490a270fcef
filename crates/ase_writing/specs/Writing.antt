-- Writing records as they are given: what is judged first, and the bytes that are made.
use Rattle.std.specs.Prelude.{ℕ, ◌+◌, ◌*◌, List, [], ◌∷◌, map, take, leb, eqb}
use Rattle.algebra.specs.Numbers.{nums}
use Rattle.algebra.specs.Reader.{pick, body, number_of, limit}
use Rattle.algebra.specs.Faults.{first_of, faults}
use Rattle.algebra.specs.Writing.{Outcome, needs, writes}
use Rattle.colour.specs.Inks.{ink_number}
use Rattle.colour.specs.declared.ink.Ink.TheVariants.{Process, NotStated}
use Rattle.colour.specs.Models.{channels_of}
use Rattle.ase.specs.Grammar.{Block, group_start, group_end, colour, other, file_bytes}
use Rattle.ase.specs.Faults as f
use Rattle.ase.specs.Row.{RecordRow}

-- ---- the block of a record: its spare places are no part of it

abbrev pub units_within : List ℕ → RecordRow → List ℕ
units_within names g = nums 2 g.units names g.first

-- the channels that its model has
abbrev pub channels_in : RecordRow → List ℕ
channels_in g = take (channels_of g.model) g.channels

abbrev pub block_by_row : List ℕ → RecordRow → Block
block_by_row names g =
    pick (eqb g.block 0xC001) (group_start (units_within names g))
    (pick (eqb g.block 0xC002) group_end
    (pick (eqb g.block 0x0001) (colour (units_within names g) g.model (channels_in g) g.ink)
    (other g.block)))

-- ---- how long the file is

-- a name's count, its units and the closing zero
abbrev pub name_size : RecordRow → ℕ
name_size g = 4 + 2 * g.units

-- six bytes, and the payload; a block of an unknown type counts six bytes, an unknown model no channel
abbrev pub size_within : RecordRow → ℕ
size_within g =
    pick (eqb g.block 0xC001) (6 + name_size g)
    (pick (eqb g.block 0xC002) 6
    (pick (eqb g.block 0x0001) (12 + name_size g + 4 * channels_of g.model) 6))

unfoldable pub sizes : List RecordRow → ℕ
sizes [] = 0
sizes (g ∷ gs) = size_within g + sizes gs

abbrev pub size : List RecordRow → ℕ
size gs = 12 + sizes gs

-- ---- which fault comes first: a number of the refusal table, 0 where there is none

-- how its name is found: a count that passes 16 bits with its closing zero is 5, then units that run past the lent bytes are 2
abbrev pub found_in : List ℕ → RecordRow → ℕ
found_in names g = pick (leb (g.units + 1) 65535) (number_of (body 2 g.units names g.first)) 5

-- its block, where d groups stand open
abbrev pub block_fault : List ℕ → ℕ → RecordRow → ℕ
block_fault names d g = f.block_fault (found_in names g) d (block_by_row names g)

-- its ink: the file has no number for process and for not stated, 14; a group has none, and its place is not judged
abbrev pub ink_fault : RecordRow → ℕ
ink_fault g = pick (eqb g.block 0x0001) (pick (eqb g.ink (ink_number Process)) 14 (pick (eqb g.ink (ink_number NotStated)) 14 0)) 0

-- first the limit, on the whole output's length; then the blocks in their order and a group that is left open; then the inks
unfoldable pub fault : List ℕ → List RecordRow → ℕ
fault names gs = pick (leb (size gs) limit) (first_of (f.blocks_fault (found_in names) (block_by_row names) 0 gs) (faults ink_fault gs)) 1

-- ---- the answer

-- the exact length that writing needs, or the refusal
abbrev pub needed : List ℕ → List RecordRow → Outcome
needed names gs = needs (fault names gs) (size gs)

-- what writing does with the lent bytes
abbrev pub written : List ℕ → List RecordRow → List ℕ → Outcome × List ℕ
written names gs out = writes (fault names gs) (size gs) (file_bytes (map (block_by_row names) gs)) out
