use native.Mathlib.Omega.{arith}
use Rattle.walk.proofs.Names.{part_none, part-from}
use Rattle.walk.proofs.name_part.Goals as goal

pub returns-then-file-place : goal.returns-then-file-place
returns-then-file-place c =
    let a = c.before.args in part_none a.file.now a.place a.units (omega arith)

pub returns-then-file-place-2 : goal.returns-then-file-place-2
returns-then-file-place-2 c =
    let a = c.before.args in part_none a.file.now a.place a.units (omega arith)

pub returns : goal.returns
returns c =
    let a = c.args in part-from a.file.now a.place a.units (omega arith)
