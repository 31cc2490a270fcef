use mathlib.Core.Path.{ap}
use Rattle.khuyurek.specs.Descriptor.{read_of}
use Rattle.khuyurek.proofs.columns.khuyurek_descriptor_values.Goals as goal

-- src/columns.rt:44:1
pub returns : goal.returns
returns c =
    rw c.exported.ensures (ap read_of c.values.ensures)
