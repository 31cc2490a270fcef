use mathlib.Core.Path.{◌∙◌, ap}
use Rattle.khuyurek.specs.Descriptor.{answer_of}
use Rattle.khuyurek.proofs.columns.khuyurek_descriptor_read.Goals as goal

-- src/columns.rt:29:1
pub returns : goal.returns
returns c =
    (c.exported.ensures ∙ ap answer_of c.read.ensures.0, c.read.ensures.1)
