use Rattle.ase.specs.Reading.{ase}
use Rattle.ase_walk.proofs.Stepping.{lent-refused, lent_is}
use Rattle.ase_walk.proofs.lent.Goals as goal

pub returns-in-Ok : goal.returns-in-Ok
returns-in-Ok c = let s = c.args.file.now in lent_is s (ase s) c.in-Ok.ensures

pub returns-in-Err : goal.returns-in-Err
returns-in-Err c = let s = c.args.file.now in lent-refused s (ase s) c.in-Err.ensures
