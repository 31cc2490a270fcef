use Rattle.ase_read.proofs.Answers.{ink-found}
use Rattle.ase_read.proofs.ink_of.Goals as goal

pub returns : goal.returns
returns c = ink-found c.args.number _ c.from.ensures _ c.unwrap_or.ensures
