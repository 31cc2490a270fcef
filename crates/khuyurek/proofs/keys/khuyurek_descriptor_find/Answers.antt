use mathlib.Core.Path.{ap}
use Rattle.khuyurek.specs.Keys.{found_of}
use Rattle.khuyurek.proofs.keys.khuyurek_descriptor_find.Goals as goal

-- src/keys.rt:44:1
pub returns : goal.returns
returns c =
    rw c.exported_found.ensures (ap found_of c.find.ensures)
