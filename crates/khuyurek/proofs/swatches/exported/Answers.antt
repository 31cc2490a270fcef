use mathlib.Core.Path.{sym, ap}
use Rattle.khuyurek.specs.Aco.{answer_of}
use Rattle.aco_judge.specs.Answer.{told}
use Rattle.khuyurek.proofs.swatches.exported.Goals as goal

pub returns-in-Ok : goal.returns-in-Ok
returns-in-Ok c = sym (ap (λ (v : _). answer_of (told v)) c.in-Ok.is)
