use mathlib.Core.Path.{sym, ap}
use Rattle.descriptor_judge.specs.Answer.{told}
use Rattle.khuyurek.specs.Descriptor.{parents_of}
use Rattle.khuyurek.proofs.columns.exported_parents.Goals as goal

-- src/columns.rt:19:1
pub returns-in-Ok : goal.returns-in-Ok
returns-in-Ok c =
    sym (ap (λ (v : _). parents_of (told v)) c.in-Ok.is)

-- src/columns.rt:19:1
pub returns-in-Err : goal.returns-in-Err
returns-in-Err c =
    rw c.number.ensures (sym (ap (λ (v : _). parents_of (told v)) c.in-Err.is))
