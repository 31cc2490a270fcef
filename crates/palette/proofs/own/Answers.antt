use Rattle.palette.proofs.Answers.{five-same}
use Rattle.palette.proofs.own.Goals as goal

pub returns : goal.returns
returns c =
    five-same c.from.ensures c.from-a.ensures c.from-b.ensures c.from-c.ensures c.from-d.ensures
