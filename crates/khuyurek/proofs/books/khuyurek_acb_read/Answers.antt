use mathlib.Core.Path.{ap}
use Rattle.khuyurek.specs.Acb.{read_of}
use Rattle.khuyurek.proofs.books.khuyurek_acb_read.Goals as goal

pub returns : goal.returns
returns c = rw c.exported.ensures (ap read_of c.read.ensures)
