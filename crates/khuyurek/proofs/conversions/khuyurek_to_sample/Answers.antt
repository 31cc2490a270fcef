use mathlib.Core.Path.{ap, ◌∙◌}
use Rattle.khuyurek.specs.Convert.{sample_of}
use Rattle.khuyurek.proofs.conversions.khuyurek_to_sample.Goals as goal

pub returns : goal.returns
returns c = c.exported_sample.ensures ∙ ap sample_of c.to_sample.ensures
