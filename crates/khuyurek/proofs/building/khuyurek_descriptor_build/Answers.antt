use mathlib.Core.Path.{ap}
use Rattle.khuyurek.specs.Written.{wrote_of}
use Rattle.khuyurek.proofs.building.khuyurek_descriptor_build.Goals as goal

pub returns : goal.returns
returns c = rw c.exported_length.ensures (ap wrote_of c.write.ensures)
