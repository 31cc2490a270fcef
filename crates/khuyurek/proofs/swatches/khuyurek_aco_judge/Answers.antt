use mathlib.Core.Path.{ap, ◌∙◌}
use Rattle.khuyurek.specs.Aco.{answer_of}
use Rattle.khuyurek.proofs.swatches.khuyurek_aco_judge.Goals as goal

pub returns : goal.returns
returns c = c.exported.ensures ∙ ap answer_of c.judge.ensures
