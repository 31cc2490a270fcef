use mathlib.Core.Path.{sym, ap}
use Rattle.khuyurek.specs.Acb.{full_of}
use Rattle.acb_shown_file.specs.Answer.{told_count}
use Rattle.khuyurek.proofs.books.exported_full.Goals as goal

pub returns-in-Ok : goal.returns-in-Ok
returns-in-Ok c = sym (ap (λ (v : _). full_of (told_count v)) c.in-Ok.is)

pub returns-in-Err : goal.returns-in-Err
returns-in-Err c = rw c.number.ensures (sym (ap (λ (v : _). full_of (told_count v)) c.in-Err.is))
