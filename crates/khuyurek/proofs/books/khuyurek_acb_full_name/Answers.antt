use mathlib.Core.Path.{ap}
use Rattle.khuyurek.specs.Acb.{full_read_of}
use Rattle.khuyurek.proofs.books.khuyurek_acb_full_name.Goals as goal

pub returns : goal.returns
returns c = rw c.exported_full.ensures (ap full_read_of c.full_name.ensures)
