use native.Mathlib.Omega.{arith}
use Rattle.resource_judge.proofs.Judging.{told-no}
use Rattle.resource_read.proofs.Answers.{accepted-of, record-refused, record-none, record_is}
use Rattle.resource_read.proofs.record_at.Goals as goal

pub returns-in_err-blocks : goal.returns-in_err-blocks
returns-in_err-blocks c = told-no _ _ c.from_residual.ensures.1 (record-refused c.args.file.now c.args.i c.in_err-blocks.ensures)

pub returns-then-blocks-i : goal.returns-then-blocks-i
returns-then-blocks-i c = record-none c.args.file.now c.in_ok-blocks.ensures c.args.i c.if-blocks-i.true

pub nth-requires : goal.nth-requires
nth-requires c =
    let a = accepted-of c.args.file.now c.in_ok-blocks.ensures in
    (a.sound, omega (arith, a.count, c.if-blocks-i.false))

pub returns : goal.returns
returns c = record_is c.args.file.now c.in_ok-blocks.ensures c.args.i c.nth.ensures
