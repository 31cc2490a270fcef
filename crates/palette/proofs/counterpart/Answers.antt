use mathlib.Core.Path.{ap, ◌∙◌}
use Rattle.palette.specs.PaletteStep.{counterpart_of}
use Rattle.palette.proofs.counterpart.Goals as goal

pub returns-in-Ok : goal.returns-in-Ok
returns-in-Ok c = c.channels_of.ensures ∙ ap counterpart_of c.in-Ok.ensures

pub returns-in-Err : goal.returns-in-Err
returns-in-Err c = c.zeros.ensures ∙ ap counterpart_of c.in-Err.ensures
