use mathlib.Core.Path.{ap, ◌∙◌}
use Rattle.algebra.specs.Reader.{number_of}
use Rattle.resource_write_judge.proofs.Judging.{part-number}
use Rattle.resource_write_judge.proofs.judge_part.Goals as goal

pub returns-in-Ok : goal.returns-in-Ok
returns-in-Ok c =
    let a = c.args in
    ap number_of c.in-Ok.ensures ∙ part-number a.n a.text.now a.first

pub returns-in-Err : goal.returns-in-Err
returns-in-Err c =
    let a = c.args in
    ap number_of c.in-Err.ensures ∙ part-number a.n a.text.now a.first
