use mathlib.Core.Path.{sym, ap}
use Rattle.khuyurek.specs.Descriptor.{value_of}
use Rattle.descriptor_read.specs.Values.{told_value}
use Rattle.khuyurek.proofs.descriptors.exported_value.Goals as goal

pub returns-in-Ok : goal.returns-in-Ok
returns-in-Ok c = sym (ap (λ (v : _). value_of (told_value v)) c.in-Ok.is)

pub returns-in-Err : goal.returns-in-Err
returns-in-Err c = rw c.number.ensures (sym (ap (λ (v : _). value_of (told_value v)) c.in-Err.is))
