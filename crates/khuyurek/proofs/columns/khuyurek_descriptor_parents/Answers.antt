use mathlib.Core.Path.{ap}
use Rattle.khuyurek.specs.Descriptor.{parented_of}
use Rattle.khuyurek.proofs.columns.khuyurek_descriptor_parents.Goals as goal

-- src/columns.rt:52:1
pub returns : goal.returns
returns c =
    rw c.exported_parents.ensures (ap parented_of c.parents.ensures)
