-- Scaffolding: the form in which the code goes; cited by private contracts and by proofs.
use Rattle.std.specs.Prelude.{◌≡◌, Bool, true, false, eqb, Result, Option, Some, None}
use Rattle.algebra.specs.Reader.{pick}
use Rattle.fault.specs.declared.Refusal.{Refusal}
use Rattle.ase.specs.Row.{RecordRow}
use Rattle.ase_read.specs.declared.NamedColour.{NamedColour}
use Rattle.walk.specs.Walk.{Call, gives, over, refused}
use Rattle.ase_walk.specs.Answer.{told_next_colour}

-- what the colour step passes over: all that is no colour
abbrev pub passes : Call RecordRow → Bool
passes (gives g) = pick (eqb g.block 0x0001) false true
passes over = false
passes (refused x p) = false

-- what it makes of what the block step answered: the same, or none where it passes over
abbrev pub Given : Option (Result (Option NamedColour) Refusal) → Call RecordRow → Type 0
Given (Some g) c = (passes c ≡ false) × (told_next_colour g ≡ c)
Given None c = passes c ≡ true
