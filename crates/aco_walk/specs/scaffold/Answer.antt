-- Scaffolding: the form in which the code goes; cited by private contracts and by proofs.
use Rattle.std.specs.Prelude.{Option, Some, None}
use Rattle.algebra.specs.Reader.{Res, ok, refuse}
use Rattle.colour.specs.declared.space.Colour.{Colour}

-- a colour that the layout allows
abbrev pub tested : Res Colour → Option Colour
tested (ok c q) = Some c
tested (refuse x p r f) = None
