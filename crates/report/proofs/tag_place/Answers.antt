use mathlib.Core.Path.{sym, ap, ◌∙◌}
use Rattle.palette.specs.declared.View.{View}
use Rattle.report.specs.scaffold.Parts.{tag_place}
use Rattle.report.proofs.tag_place.Goals as goal

pub returns-in-Samples : goal.returns-in-Samples
returns-in-Samples c = c.aco_place.ensures ∙ ap (λ (v : View). tag_place v c.args.tag) (sym c.in-Samples.is)

pub returns-in-Counterparts : goal.returns-in-Counterparts
returns-in-Counterparts c = c.aco_place-in-Counterparts.ensures ∙ ap (λ (v : View). tag_place v c.args.tag) (sym c.in-Counterparts.is)

pub returns-in-Channels : goal.returns-in-Channels
returns-in-Channels c = c.ase_place.ensures ∙ ap (λ (v : View). tag_place v c.args.tag) (sym c.in-Channels.is)
