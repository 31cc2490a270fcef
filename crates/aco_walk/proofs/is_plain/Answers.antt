use Rattle.aco_walk.proofs.Stepping.{plain-is}
use Rattle.aco_walk.proofs.is_plain.Goals as goal

pub returns : goal.returns
returns c =
    plain-is c.args.file.now _ c.number_or_zero-count.ensures
