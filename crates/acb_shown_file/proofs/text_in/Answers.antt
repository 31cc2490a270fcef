use mathlib.Core.Path.{refl, ◌∙◌}
use Rattle.acb_shown_file.proofs.Naming.{text-part}
use Rattle.acb_shown_file.proofs.text_in.Goals as goal

pub returns : goal.returns
returns c = let a = c.args in c.shown_text.ensures ∙ text-part a.file.now a.text.first a.text.units _ refl
