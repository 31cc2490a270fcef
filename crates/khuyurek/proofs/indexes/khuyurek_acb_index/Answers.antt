use mathlib.Core.Path.{sym, ap, ◌∙◌}
use Rattle.acb_index.specs.Answer.{told}
use Rattle.khuyurek.specs.Names.{indexed_of}
use Rattle.khuyurek.proofs.indexes.khuyurek_acb_index.Goals as goal

pub returns-in-Ok : goal.returns-in-Ok
returns-in-Ok c =
    let b = c.build in
    sym (ap (λ (v : _). indexed_of (told v, b.new.index)) c.in-Ok.is) ∙ ap indexed_of b.ensures

pub returns-in-Err : goal.returns-in-Err
returns-in-Err c =
    rw c.number.ensures (let b = c.build in
    sym (ap (λ (v : _). indexed_of (told v, b.new.index)) c.in-Err.is) ∙ ap indexed_of b.ensures)
