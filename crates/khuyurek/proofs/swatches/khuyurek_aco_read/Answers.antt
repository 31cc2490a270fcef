use mathlib.Core.Path.{ap}
use Rattle.khuyurek.specs.Aco.{read_of}
use Rattle.khuyurek.proofs.swatches.khuyurek_aco_read.Goals as goal

pub returns : goal.returns
returns c = rw c.exported.ensures (ap read_of c.read.ensures)
