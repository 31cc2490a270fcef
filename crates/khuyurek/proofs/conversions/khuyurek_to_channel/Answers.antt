use mathlib.Core.Path.{ap, ◌∙◌}
use Rattle.khuyurek.specs.Convert.{channel_of}
use Rattle.khuyurek.proofs.conversions.khuyurek_to_channel.Goals as goal

pub returns : goal.returns
returns c = c.exported_channel.ensures ∙ ap channel_of c.to_channel.ensures
