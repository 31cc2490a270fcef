use mathlib.Core.Path.{sym, ap}
use Rattle.khuyurek.specs.Acb.{answer_of}
use Rattle.acb_judge.specs.Answer.{told}
use Rattle.khuyurek.proofs.books.exported.Goals as goal

pub returns-in-Ok : goal.returns-in-Ok
returns-in-Ok c =
    let known = sym (ap (λ (v : _). answer_of (told v)) c.in-Ok.is) in
    rw c.header_of.ensures known

pub returns-in-Err : goal.returns-in-Err
returns-in-Err c =
    rw c.number.ensures (let known = sym (ap (λ (v : _). answer_of (told v)) c.in-Err.is) in
    rw c.no_header.ensures known)
