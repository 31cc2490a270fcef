use mathlib.Core.Path.{sym, ap, ◌∙◌}
use Rattle.palette.specs.PaletteStep.{colour_numbers}
use Rattle.palette.specs.declared.View.{View}
use Rattle.palette.proofs.numbers_of.Goals as goal

pub returns-in-Samples : goal.returns-in-Samples
returns-in-Samples c = c.own.ensures ∙ ap (λ (v : View). colour_numbers v c.args.colour) (sym c.in-Samples.is)

pub returns-in-Counterparts : goal.returns-in-Counterparts
returns-in-Counterparts c = c.counterpart.ensures ∙ ap (λ (v : View). colour_numbers v c.args.colour) (sym c.in-Counterparts.is)

pub returns-in-Channels : goal.returns-in-Channels
returns-in-Channels c = c.zeros.ensures ∙ ap (λ (v : View). colour_numbers v c.args.colour) (sym c.in-Channels.is)
