use Rattle.palette.proofs.Answers.{with-numbers}
use Rattle.palette.proofs.none.Goals as goal

pub returns : goal.returns
returns c = with-numbers 0 0 c.args.next c.zeros.ensures
