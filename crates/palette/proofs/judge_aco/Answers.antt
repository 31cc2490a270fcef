use Rattle.palette.proofs.Answers.{aco-accepted}
use Rattle.palette.proofs.judge_aco.Goals as goal

pub returns-in-Ok : goal.returns-in-Ok
returns-in-Ok c = (aco-accepted c.args.file.now c.in-Ok.ensures, tt)
