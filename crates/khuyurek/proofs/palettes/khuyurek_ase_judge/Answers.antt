use mathlib.Core.Path.{ap, ◌∙◌}
use Rattle.khuyurek.specs.Ase.{palette_of}
use Rattle.khuyurek.proofs.palettes.khuyurek_ase_judge.Goals as goal

pub returns : goal.returns
returns c = c.exported.ensures ∙ ap palette_of c.judge.ensures
