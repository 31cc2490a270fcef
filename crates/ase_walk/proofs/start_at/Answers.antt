use Rattle.ase.specs.Reading.{ase}
use Rattle.ase_walk.proofs.Stepping.{start-exit, start-refused, start_is}
use Rattle.ase_walk.proofs.start_at.Goals as goal

pub returns-in_err-judge : goal.returns-in_err-judge
returns-in_err-judge c = let s = c.args.file.now in start-exit _ _ c.from_residual.ensures.1 (start-refused s (ase s) c.in_err-judge.ensures)

pub returns : goal.returns
returns c = let s = c.args.file.now in start_is s (ase s) c.in_ok-judge.ensures _ c.first_at.ensures
