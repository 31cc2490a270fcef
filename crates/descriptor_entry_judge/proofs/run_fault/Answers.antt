use mathlib.Core.Path.{ap, ◌∙◌}
use Rattle.algebra.specs.Reader.{body, number_of}
use Rattle.descriptor_entry_judge.proofs.Judging as J
use Rattle.descriptor_entry_judge.proofs.run_fault.Goals as goal

pub returns-in-Ok : goal.returns-in-Ok
returns-in-Ok c =
    let a = c.args in
    ap number_of c.in-Ok.ensures ∙ J.done-number (body 1 a.n a.text.now a.first)

pub returns-in-Err : goal.returns-in-Err
returns-in-Err c =
    let a = c.args in
    ap number_of c.in-Err.ensures ∙ J.done-number (body 1 a.n a.text.now a.first)
