use Rattle.palette.proofs.Answers.{ase-view}
use Rattle.palette.proofs.view_of.Goals as goal

pub returns-in-Ase : goal.returns-in-Ase
returns-in-Ase c = ase-view c.args.kind c.args.other c.in-Ase.is
