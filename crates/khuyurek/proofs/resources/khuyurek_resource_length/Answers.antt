use mathlib.Core.Path.{ap, ◌∙◌}
use Rattle.khuyurek.specs.Written.{written_of}
use Rattle.khuyurek.proofs.resources.khuyurek_resource_length.Goals as goal

pub returns : goal.returns
returns c = c.exported_length.ensures ∙ ap written_of c.write_length.ensures
