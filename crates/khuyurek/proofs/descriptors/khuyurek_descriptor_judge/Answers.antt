use mathlib.Core.Path.{ap, ◌∙◌}
use Rattle.khuyurek.specs.Descriptor.{answer_of}
use Rattle.khuyurek.proofs.descriptors.khuyurek_descriptor_judge.Goals as goal

pub returns : goal.returns
returns c = c.exported.ensures ∙ ap answer_of c.judge.ensures
