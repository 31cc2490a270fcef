use Rattle.aco_walk.proofs.Stepping.{lent-rejected, lent_is}
use Rattle.aco_walk.proofs.lent.Goals as goal

pub returns-in-Ok : goal.returns-in-Ok
returns-in-Ok c = lent_is c.args.file.now c.in-Ok.ensures

pub returns-in-Err : goal.returns-in-Err
returns-in-Err c = lent-rejected c.args.file.now _ c.in-Err.ensures
