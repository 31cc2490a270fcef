use mathlib.Core.Path.{ap}
use Rattle.khuyurek.specs.Resource.{section_of}
use Rattle.khuyurek.proofs.resources.khuyurek_document_resources.Goals as goal

pub returns-in-Ok : goal.returns-in-Ok
returns-in-Ok c = ap section_of c.in-Ok.ensures

pub returns-in-Err : goal.returns-in-Err
returns-in-Err c = rw c.number.ensures (ap section_of c.in-Err.ensures)
