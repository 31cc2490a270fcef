use mathlib.Core.Path.{sym, ap}
use Rattle.khuyurek.specs.Aco.{answer_of}
use Rattle.aco_stream.specs.Answer.{told as toldEnd}
use Rattle.khuyurek.proofs.stream.exported_end.Goals as goal

pub returns-in-Ok : goal.returns-in-Ok
returns-in-Ok c = sym (ap (λ (v : _). answer_of (toldEnd v)) c.in-Ok.is)

pub returns-in-Err : goal.returns-in-Err
returns-in-Err c = rw c.number.ensures (sym (ap (λ (v : _). answer_of (toldEnd v)) c.in-Err.is))
