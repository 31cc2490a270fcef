use mathlib.Core.Path.{ap}
use Rattle.khuyurek.specs.Names.{found_of}
use Rattle.khuyurek.proofs.indexes.khuyurek_acb_find.Goals as goal

pub returns-in-Ok : goal.returns-in-Ok
returns-in-Ok c = ap found_of c.in-Ok.ensures

pub returns-in-Err : goal.returns-in-Err
returns-in-Err c = rw c.number.ensures (ap found_of c.in-Err.ensures)
