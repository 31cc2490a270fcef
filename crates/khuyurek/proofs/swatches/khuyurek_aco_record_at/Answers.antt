use mathlib.Core.Path.{ap, ◌∙◌}
use Rattle.khuyurek.specs.Aco.{to_record}
use Rattle.khuyurek.proofs.swatches.khuyurek_aco_record_at.Goals as goal

pub returns-in-Ok : goal.returns-in-Ok
returns-in-Ok c = c.found.ensures ∙ ap to_record c.in-Ok.ensures
