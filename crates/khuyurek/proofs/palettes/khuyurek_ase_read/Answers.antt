use mathlib.Core.Path.{ap}
use Rattle.khuyurek.specs.Ase.{palette_read_of}
use Rattle.khuyurek.proofs.palettes.khuyurek_ase_read.Goals as goal

pub returns : goal.returns
returns c = rw c.exported.ensures (ap palette_read_of c.read.ensures)
