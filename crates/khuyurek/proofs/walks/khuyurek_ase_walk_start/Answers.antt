use mathlib.Core.Path.{ap, ◌∙◌}
use Rattle.khuyurek.specs.Walk.{ase_start}
use Rattle.khuyurek.proofs.walks.khuyurek_ase_walk_start.Goals as goal

pub returns : goal.returns
returns c = c.ase_started.ensures ∙ ap ase_start c.start_at.ensures
