use Rattle.palette.proofs.Answers.{ase-accepted}
use Rattle.palette.proofs.judge_ase.Goals as goal

pub returns-in-Ok : goal.returns-in-Ok
returns-in-Ok c = (ase-accepted c.args.file.now c.in-Ok.ensures, tt)
