use mathlib.Core.Path.{ap}
use native.Mathlib.Omega.{arith}
use Rattle.algebra.specs.Table.{Verdict, seen}
use Rattle.algebra.proofs.Table.{accepted-of, record-none}
use Rattle.aco.specs.Reading.{Entry, unnamed, zero_colour, aco}
use Rattle.aco.specs.Row.{given_of}
use Rattle.aco_judge.specs.Answer.{report}
use Rattle.aco_judge.proofs.Judging.{err-exit}
use Rattle.aco_read.specs.Answer.{told_record}
use Rattle.aco_read.specs.Table.{records, by_value}
use Rattle.aco_read.proofs.Answers.{count, counts, record-rejected}
use Rattle.aco_read.proofs.record_at.Goals as goal

pub returns-in_err-counts : goal.returns-in_err-counts
returns-in_err-counts c = err-exit told_record _ _ c.from_residual.ensures.1 (record-rejected c.args.file.now c.args.i _ c.in_err-counts.ensures)

pub returns-then-counts-i : goal.returns-then-counts-i
returns-then-counts-i c =
    let a = c.args in
    let k = accepted-of report (aco a.file.now) c.in_ok-counts.ensures in
    ap (λ (v : Verdict Entry). by_value (seen given_of v)) (record-none records report count counts (aco a.file.now) (unnamed zero_colour) a.i k (omega (arith, c.if-counts-i.true)))

pub found-requires : goal.found-requires
found-requires c = (accepted-of report (aco c.args.file.now) c.in_ok-counts.ensures, omega (arith, c.if-counts-i.false))

pub returns : goal.returns
returns c = c.found.ensures
