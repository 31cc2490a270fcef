use native.Mathlib.Omega.{arith}
use Rattle.ase_walk.proofs.Stepping.{walk-over, walk-past}
use Rattle.ase_walk.proofs.ended_at.Goals as goal

pub returns-then-at-end : goal.returns-then-at-end
returns-then-at-end c =
    let a = c.args in walk-over a.file.now a.at c.if-at-end.true

pub returns : goal.returns
returns c =
    let a = c.args in walk-past a.file.now a.at (omega (arith, c.if-at-end.false, c.requires))
