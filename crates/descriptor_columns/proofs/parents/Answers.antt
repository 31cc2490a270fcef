use Rattle.descriptor_columns.proofs.Upward as U
use Rattle.descriptor_columns.proofs.parents.Goals as goal

pub returns-then-rows-gt4294967295 : goal.returns-then-rows-gt4294967295
returns-then-rows-gt4294967295 c =
    let a = c.args in
    U.too_many a.depth.now a.parents.now c.if-rows-gt4294967295.true

pub returns-then-parents-rows : goal.returns-then-parents-rows
returns-then-parents-rows c =
    let a = c.args in
    U.too_short a.depth.now a.parents.now c.if-rows-gt4294967295.false c.if-parents-rows.true

pub returns : goal.returns
returns c =
    let a = c.args in
    U.all-parents a.depth.now a.parents.now c.if-rows-gt4294967295.false c.if-parents-rows.false c.fill_parents.ensures
