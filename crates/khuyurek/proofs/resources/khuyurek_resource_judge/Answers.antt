use mathlib.Core.Path.{ap, ◌∙◌}
use Rattle.khuyurek.specs.Resource.{answer_of}
use Rattle.khuyurek.proofs.resources.khuyurek_resource_judge.Goals as goal

pub returns : goal.returns
returns c = c.exported.ensures ∙ ap answer_of c.judge.ensures
