use mathlib.Core.Path.{sym, ap}
use Rattle.khuyurek.specs.Acb.{page_of}
use Rattle.acb_shown_values.specs.Answer.{told_page}
use Rattle.khuyurek.proofs.books.exported_page.Goals as goal

pub returns-in-Ok : goal.returns-in-Ok
returns-in-Ok c = sym (ap (λ (v : _). page_of (told_page v)) c.in-Ok.is)

pub returns-in-Err : goal.returns-in-Err
returns-in-Err c = rw c.number.ensures (sym (ap (λ (v : _). page_of (told_page v)) c.in-Err.is))
