use mathlib.Core.Path.{ap, ◌∙◌}
use mathlib.Core.Bool.{Bool}
use lib.Ieee.{binary32, of_bits}
use lib.Ieee.Scale.{finite}
use Rattle.algebra.specs.Reader.{pick}
use Rattle.colour.specs.Channels.{in_unit}
use Rattle.colour.proofs.model.Model.allows.Goals as goal

pub returns : goal.returns
returns c = let x = of_bits binary32 c.args.bits in c.is_channel.ensures ∙ ap (λ (w : Bool). pick w (finite x) (in_unit x)) c.is_wide.ensures
