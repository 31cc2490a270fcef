use mathlib.Core.Path.{sym, ap, ◌∙◌}
use Rattle.palette.specs.PaletteStep.{step_of}
use Rattle.palette.specs.declared.View.{View}
use Rattle.palette.proofs.Answers.{samples-step, counterparts-step}
use Rattle.palette.proofs.step_at.Goals as goal

pub returns-in-Samples : goal.returns-in-Samples
returns-in-Samples c =
    let a = c.args in
    c.aco_step.ensures ∙ samples-step a.view a.file.now a.at c.in-Samples.is

pub returns-in-Counterparts : goal.returns-in-Counterparts
returns-in-Counterparts c =
    let a = c.args in
    c.aco_step-in-Counterparts.ensures ∙ counterparts-step a.view a.file.now a.at c.in-Counterparts.is

pub returns-in-Channels : goal.returns-in-Channels
returns-in-Channels c =
    let a = c.args in
    c.ase_step.ensures ∙ ap (λ (v : View). step_of v a.file.now a.at) (sym c.in-Channels.is)
