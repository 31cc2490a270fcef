use mathlib.Core.Path.{sym, ◌∙◌}
use Rattle.aco_walk.proofs.Stepping.{labelled_plain, labelled-named, labelled-lost}
use Rattle.aco_walk.proofs.labelled_at.Goals as goal

pub returns-then-is_plain : goal.returns-then-is_plain
returns-then-is_plain c =
    let a = c.args in labelled_plain a.file.now a.at a.colour (sym c.is_plain.ensures ∙ c.if-is_plain.true)

pub returns-in-Ok : goal.returns-in-Ok
returns-in-Ok c =
    let a = c.args in
    labelled-named a.file.now a.at a.colour (sym c.is_plain.ensures ∙ c.if-is_plain.false) c.in-Ok.ensures

pub returns-in-Err : goal.returns-in-Err
returns-in-Err c =
    let a = c.args in
    c.lost.ensures ∙ labelled-lost a.file.now a.at a.colour (sym c.is_plain.ensures ∙ c.if-is_plain.false) c.in-Err.ensures
