use mathlib.Core.Path.{refl}
use Rattle.aco_write_judge.specs.scaffold.Parts.{told_record}
use Rattle.aco_write_judge.proofs.Judging.{name-is}
use Rattle.aco_write_judge.proofs.judge_name.Goals as goal

pub returns-in-Ok : goal.returns-in-Ok
returns-in-Ok c =
    let a = c.args in
    name-is a.text.now (told_record a.given) _ _ refl c.in-Ok.ensures

pub returns-in-Err : goal.returns-in-Err
returns-in-Err c =
    let a = c.args in
    name-is a.text.now (told_record a.given) _ _ refl c.in-Err.ensures
