use mathlib.Core.Path.{ap, ◌∙◌}
use Rattle.khuyurek.specs.Acb.{page_of}
use Rattle.khuyurek.proofs.books.khuyurek_acb_page_at.Goals as goal

pub returns : goal.returns
returns c = c.exported_page.ensures ∙ ap page_of c.page_at.ensures
