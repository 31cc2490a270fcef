use mathlib.Core.Path.{sym, ap}
use Rattle.khuyurek.specs.Ase.{palette_of}
use Rattle.ase_judge.specs.Answer.{told}
use Rattle.khuyurek.proofs.palettes.exported.Goals as goal

pub returns-in-Ok : goal.returns-in-Ok
returns-in-Ok c = sym (ap (λ (v : _). palette_of (told v)) c.in-Ok.is)

pub returns-in-Err : goal.returns-in-Err
returns-in-Err c = rw c.number.ensures (sym (ap (λ (v : _). palette_of (told v)) c.in-Err.is))
