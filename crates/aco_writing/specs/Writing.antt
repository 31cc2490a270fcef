-- Writing records of a run of numbers: what is judged first, and the bytes that are made.
use Rattle.std.specs.Prelude.{ℕ, ◌+◌, ◌*◌, List, [], ◌∷◌, map, leb, eqb}
use Rattle.algebra.specs.Numbers.{nums}
use Rattle.algebra.specs.Reader.{pick, body, number_of, limit}
use Rattle.algebra.specs.Faults.{first_of, faults}
use Rattle.algebra.specs.Writing.{Outcome, needs, writes}
use Rattle.colour.specs.Inks.{ink_number}
use Rattle.colour.specs.declared.ink.Ink.TheVariants.{NotStated}
use Rattle.aco.specs.Grammar.{Swatch, two_lists}
use Rattle.aco.specs.Faults.{swatches_fault}
use Rattle.aco.specs.Row.{RecordRow, Record}

-- ---- the swatch of a record, apart from where its name lies

abbrev pub swatch_in : List ℕ → RecordRow → Swatch
swatch_in names g = record { space = g.space; samples = g.samples; name = nums 2 g.units names g.first }

-- with its ink
abbrev pub record_in : List ℕ → RecordRow → Record
record_in names g = record { swatch = swatch_in names g; ink = g.ink }

-- ---- how long the file is

-- ten bytes in list 1; ten, the count, the units and the closing zero in list 2
unfoldable pub sizes : List RecordRow → ℕ
sizes [] = 0
sizes (g ∷ gs) = 26 + 2 * g.units + sizes gs

abbrev pub size : List RecordRow → ℕ
size gs = 8 + sizes gs

-- ---- which fault comes first: a number of the refusal table, 0 where there is none

-- how its name is found: units that run past the lent bytes are 2
abbrev pub found_in : List ℕ → RecordRow → ℕ
found_in names g = number_of (body 2 g.units names g.first)

-- its ink: a file does not state one, and any but not stated is 14
abbrev pub ink_fault : RecordRow → ℕ
ink_fault g = pick (eqb g.ink (ink_number NotStated)) 0 14

-- first the limit, on the whole output's length; then the swatches, where a number that its field cannot hold is no space and no sample; then the inks
unfoldable pub fault : List ℕ → List RecordRow → ℕ
fault names gs = pick (leb (size gs) limit) (first_of (swatches_fault (found_in names) (swatch_in names) gs) (faults ink_fault gs)) 1

-- ---- the answer

-- the exact length that writing needs, or the refusal
abbrev pub needed : List ℕ → List RecordRow → Outcome
needed names gs = needs (fault names gs) (size gs)

-- what writing does with the lent bytes
abbrev pub written : List ℕ → List RecordRow → List ℕ → Outcome × List ℕ
written names gs out = writes (fault names gs) (size gs) (two_lists (map (swatch_in names) gs)) out
