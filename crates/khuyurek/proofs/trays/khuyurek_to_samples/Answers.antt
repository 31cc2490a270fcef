use mathlib.Core.Path.{ap}
use Rattle.khuyurek.specs.Trays.{filled_of}
use Rattle.khuyurek.proofs.trays.khuyurek_to_samples.Goals as goal

pub returns : goal.returns
returns c = rw c.exported.ensures (ap filled_of c.to_samples.ensures)
