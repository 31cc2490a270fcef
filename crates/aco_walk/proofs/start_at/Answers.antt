use Rattle.aco_judge.proofs.Judging.{err-exit}
use Rattle.aco_walk.specs.Answer.{told_start}
use Rattle.aco_walk.proofs.Stepping.{start-rejected, start_is}
use Rattle.aco_walk.proofs.start_at.Goals as goal

pub returns-in_err-judge : goal.returns-in_err-judge
returns-in_err-judge c = err-exit told_start _ _ c.from_residual.ensures.1 (start-rejected c.args.file.now _ c.in_err-judge.ensures)

pub returns : goal.returns
returns c = start_is c.args.file.now c.in_ok-judge.ensures _ c.first_at.ensures
