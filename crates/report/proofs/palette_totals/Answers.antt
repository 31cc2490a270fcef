use mathlib.Core.Path.{◌∙◌}
use Rattle.report.proofs.Counting.{begun, begun-low}
use Rattle.report.proofs.Files.{palette-many, palette-rejected, palette-accepted}
use Rattle.report.proofs.palette_totals.Goals as goal

pub count_colours-requires : goal.count_colours-requires
count_colours-requires c =
    let a = c.args in
    (palette-many a.kind a.file.now c.in-Ok.ensures.0, begun-low _ 0 c.tally.ensures)

pub returns-in-Err : goal.returns-in-Err
returns-in-Err c =
    let a = c.args in
    c.rejected.ensures ∙ palette-rejected a.kind a.file.now c.in-Err.rejection c.in-Err.ensures.0

pub returns-in-Ok : goal.returns-in-Ok
returns-in-Ok c =
    let a = c.args in
    palette-accepted a.kind a.file.now _ _ c.in-Ok.ensures.0 (begun _ 0 c.tally.ensures) c.count_colours.ensures
