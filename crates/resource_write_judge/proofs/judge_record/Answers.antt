use mathlib.Core.Path.{refl}
use native.Mathlib.Omega.{arith}
use Rattle.resource_write_judge.proofs.Judging.{judged-exit, some-number, id-fault, letters-fault, name-fault, payload-fault}
use Rattle.resource_write_judge.proofs.judge_record.Goals as goal

pub returns-then-given-gt65535 : goal.returns-then-given-gt65535
returns-then-given-gt65535 c = id-fault c.args.text.now c.args.given c.if-given-gt65535.true

pub returns-then-given-gt255 : goal.returns-then-given-gt255
returns-then-given-gt255 c = letters-fault c.args.text.now c.args.given (omega arith) (omega (arith, c.if-given-gt255.true))

pub returns-in_err-judge_part : goal.returns-in_err-judge_part
returns-in_err-judge_part c =
    let a = c.args in
    judged-exit _ _ c.from_residual.ensures.1 (name-fault a.text.now a.given (omega arith) (omega arith) _ c.in_err-judge_part.ensures (some-number _))

pub returns : goal.returns
returns c =
    let a = c.args in
    payload-fault a.text.now a.given (omega arith) (omega arith) _ _ c.in_ok-judge_part.ensures refl c.judge_part-2.ensures
