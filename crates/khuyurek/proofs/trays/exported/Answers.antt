use mathlib.Core.Path.{sym, ap}
use Rattle.khuyurek.specs.Trays.{tray_of}
use Rattle.tray.specs.Answer.{told}
use Rattle.khuyurek.proofs.trays.exported.Goals as goal

pub returns-in-Ok : goal.returns-in-Ok
returns-in-Ok c = sym (ap (λ (v : _). tray_of (told v)) c.in-Ok.is)

pub returns-in-Err : goal.returns-in-Err
returns-in-Err c = rw c.number.ensures (sym (ap (λ (v : _). tray_of (told v)) c.in-Err.is))
