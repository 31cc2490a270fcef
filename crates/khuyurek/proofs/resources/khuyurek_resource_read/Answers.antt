use mathlib.Core.Path.{ap}
use Rattle.khuyurek.specs.Resource.{read_of}
use Rattle.khuyurek.proofs.resources.khuyurek_resource_read.Goals as goal

pub returns : goal.returns
returns c = rw c.exported.ensures (ap read_of c.read.ensures)
