use native.Mathlib.Omega.{arith}
use Rattle.ase_judge.proofs.Judging.{stop-long, stop-none, stop-ok}
use Rattle.ase_judge.proofs.group_end_at.Goals as goal

pub returns-then-end-at : goal.returns-then-end-at
returns-then-end-at c = stop-long _ _ _ (λ z. omega (arith, z, c.if-end-at.true))

pub returns-then-depth-eq0 : goal.returns-then-depth-eq0
returns-then-depth-eq0 c = stop-none _ _ _ (omega arith) c.if-depth-eq0.true

pub returns : goal.returns
returns c = stop-ok _ _ _ (omega arith) (omega arith)
