use mathlib.Core.Path.{ap, ◌∙◌}
use Rattle.khuyurek.specs.Acb.{answer_of}
use Rattle.khuyurek.proofs.books.khuyurek_acb_judge.Goals as goal

pub returns : goal.returns
returns c = c.exported.ensures ∙ ap answer_of c.judge.ensures
