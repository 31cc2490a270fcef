use Rattle.ase_walk.proofs.Blocks.{block-moves}
use Rattle.ase_walk.proofs.Stepping.{block-over, passed-stands, block-lost, block-shown}
use Rattle.ase_walk.proofs.block_at.Goals as goal

pub returns-then-at-file : goal.returns-then-at-file
returns-then-at-file c =
    let a = c.args in block-over a.file.now a.at c.if-at-file.true

pub block_of-requires : goal.block_of-requires
block_of-requires c =
    let a = c.args in
    let b = passed-stands a.file.now a.at c.in-Ok.ensures in
    let m = block-moves a.file.now a.at b.1 in
    (m.0, m.1, b)

pub returns-in-Ok : goal.returns-in-Ok
returns-in-Ok c =
    let a = c.args in
    block-shown a.file.now a.at c.if-at-file.false _ c.block_of.ensures

pub returns-in-Err : goal.returns-in-Err
returns-in-Err c =
    let a = c.args in
    block-lost a.file.now a.at c.if-at-file.false c.in-Err.ensures
