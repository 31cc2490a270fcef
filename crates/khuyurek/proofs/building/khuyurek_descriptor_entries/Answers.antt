use mathlib.Core.Path.{ap}
use Rattle.khuyurek.specs.Descriptor.{read_of}
use Rattle.khuyurek.proofs.building.khuyurek_descriptor_entries.Goals as goal

-- src/building.rt
pub returns : goal.returns
returns c =
    rw c.exported.ensures (ap read_of c.entries.ensures)
