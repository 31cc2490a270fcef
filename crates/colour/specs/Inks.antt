-- The inks that a colour may state.
use Rattle.std.specs.Prelude.{ℕ, eqb, Option, Some, None}
use Rattle.algebra.specs.Reader.{pick}
use Rattle.colour.specs.declared.ink.Ink.{Ink}
use Rattle.colour.specs.declared.ink.Ink.TheVariants.{Global, Spot, Normal, Process, NotStated}

-- each ink has its number, and those that an ASE file states have the number of the colour's type
abbrev pub ink_number : Ink → ℕ
ink_number Global = 0
ink_number Spot = 1
ink_number Normal = 2
ink_number Process = 3
ink_number NotStated = 4

-- the ink with a number
unfoldable pub ink_of : ℕ → Option Ink
ink_of n =
    pick (eqb n (ink_number Global)) (Some Global)
    (pick (eqb n (ink_number Spot)) (Some Spot)
    (pick (eqb n (ink_number Normal)) (Some Normal)
    (pick (eqb n (ink_number Process)) (Some Process)
    (pick (eqb n (ink_number NotStated)) (Some NotStated) None))))
