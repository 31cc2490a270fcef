use mathlib.Core.Path.{ap, ◌∙◌}
use Rattle.khuyurek.specs.Acb.{full_of}
use Rattle.khuyurek.proofs.books.khuyurek_acb_full_length.Goals as goal

pub returns : goal.returns
returns c = c.exported_full.ensures ∙ ap full_of c.full_length.ensures
