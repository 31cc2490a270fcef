use native.Mathlib.Omega.{arith}
use Rattle.ase_walk.proofs.Stepping.{first-is, first-none}
use Rattle.ase_walk.proofs.first_at.Goals as goal

pub returns-then-n-ge12 : goal.returns-then-n-ge12
returns-then-n-ge12 c =
    first-is c.args.file.now c.if-n-ge12.true

pub returns : goal.returns
returns c =
    first-none c.args.file.now (omega (arith, c.if-n-ge12.false))
