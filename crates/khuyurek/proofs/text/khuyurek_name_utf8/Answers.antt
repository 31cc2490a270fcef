use mathlib.Core.Path.{ap}
use Rattle.khuyurek.specs.Written.{wrote_of}
use Rattle.khuyurek.proofs.text.khuyurek_name_utf8.Goals as goal

pub returns : goal.returns
returns c = rw c.exported_length.ensures (ap wrote_of c.name_utf8.ensures)
