use mathlib.Core.Path.{◌∙◌}
use native.Mathlib.Omega.{arith}
use Rattle.report.proofs.Counting.{begun, begun-low}
use Rattle.report.proofs.Files.{rows_few, rows-refused, rows-accepted}
use Rattle.report.proofs.descriptor_totals.Goals as goal

pub overflow_cast-rows : goal.overflow_cast-rows
overflow_cast-rows c =
    let a = c.args in
    omega (arith, rows_few a.file.now c.in-Ok.ensures)

pub tally-requires-in-Ok : goal.tally-requires-in-Ok
tally-requires-in-Ok c =
    let a = c.args in
    let l = begun-low _ 0 c.tally.ensures in
    (l.long, omega (arith, l.below 30, rows_few a.file.now c.in-Ok.ensures))

pub returns-in-Err : goal.returns-in-Err
returns-in-Err c =
    let a = c.args in
    c.refused.ensures ∙ rows-refused a.file.now c.in-Err.ensures

pub returns-in-Ok : goal.returns-in-Ok
returns-in-Ok c =
    let a = c.args in
    rows-accepted a.file.now _ _ c.in-Ok.ensures (begun _ 0 c.tally.ensures) c.tally-in-Ok.ensures
