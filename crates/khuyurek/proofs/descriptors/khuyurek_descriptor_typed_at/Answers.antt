use mathlib.Core.Path.{ap, ◌∙◌}
use Rattle.khuyurek.specs.Descriptor.{typed_answer}
use Rattle.khuyurek.proofs.descriptors.khuyurek_descriptor_typed_at.Goals as goal

pub returns : goal.returns
returns c = c.exported_typed.ensures ∙ ap typed_answer c.typed_at.ensures
