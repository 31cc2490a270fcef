use mathlib.Core.Path.{ap, ◌∙◌}
use Rattle.khuyurek.specs.Walk.{aco_start}
use Rattle.khuyurek.proofs.walks.khuyurek_aco_walk_start.Goals as goal

pub returns : goal.returns
returns c = c.aco_started.ensures ∙ ap aco_start c.start_at.ensures
