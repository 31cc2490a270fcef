use mathlib.Core.Path.{refl}
use Rattle.algebra.proofs.Writing.{size_is}
use Rattle.fault.proofs.Exit.{written-exit}
use Rattle.resource_writing.specs.Writing.{given, sizes}
use Rattle.resource_write_judge.proofs.Judging.{some-number, bad_record, all-fine, size-fault}
use Rattle.resource_write_judge.proofs.write_length.Goals as goal

pub returns-in_err-size : goal.returns-in_err-size
returns-in_err-size c =
    let rs = given c.args.records.now in
    written-exit _ _ c.from_residual.ensures.1 (size-fault c.args.text.now rs c.in_err-size.ensures)

pub returns-in_err-judge_records : goal.returns-in_err-judge_records
returns-in_err-judge_records c =
    let rs = given c.args.records.now in
    let z = size_is (sizes rs) _ c.in_ok-size.ensures in
    written-exit _ _ c.from_residual-in_err-judge_records.ensures.1 (bad_record c.args.text.now rs z.0 _ c.in_err-judge_records.ensures (some-number _))

pub returns : goal.returns
returns c =
    let rs = given c.args.records.now in
    let z = size_is (sizes rs) _ c.in_ok-size.ensures in
    all-fine c.args.text.now rs z.0 _ _ c.in_ok-judge_records.ensures refl z.1
