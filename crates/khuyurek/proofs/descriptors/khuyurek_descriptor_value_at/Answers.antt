use mathlib.Core.Path.{ap, ◌∙◌}
use Rattle.khuyurek.specs.Descriptor.{value_of}
use Rattle.khuyurek.proofs.descriptors.khuyurek_descriptor_value_at.Goals as goal

pub returns : goal.returns
returns c = c.exported_value.ensures ∙ ap value_of c.value_at.ensures
