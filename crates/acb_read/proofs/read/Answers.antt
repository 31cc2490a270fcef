use mathlib.Core.Path.{ap, ◌∙◌}
use lib.Seq.{sets}
use native.Mathlib.Omega.{arith}
use Rattle.algebra.proofs.Table.{accepted-of, filled-short, filled_is}
use Rattle.algebra.specs.Filling.{records_in}
use Rattle.acb.specs.Reading.{acb}
use Rattle.acb.specs.Row.{width, numbers, records_of}
use Rattle.acb_judge.specs.Answer.{Report, report}
use Rattle.acb_read.proofs.Answers.{length-table, count-records, file-short, rows_walked}
use Rattle.acb_read.proofs.read.Goals as goal

pub returns-then-table-book : goal.returns-then-table-book
returns-then-table-book c =
    let a = c.args in
    filled-short records_of report (λ (r : Report). r.count) count-records (acb a.file.now) width numbers a.table.now c.in_ok-book.ensures (omega (arith, c.if-table-book.true))

pub fill-requires : goal.fill-requires
fill-requires c =
    let s = c.args.file.now in
    (file-short s (accepted-of report (acb s) c.in_ok-book.ensures), omega (arith, c.if-table-book.false))

pub returns : goal.returns
returns c =
    let a = c.args in
    let s = a.file.now in
    let e = c.in_ok-book.ensures in
    filled_is records_of report (λ (r : Report). r.count) count-records (acb s) width numbers a.table.now e (omega (arith, c.if-table-book.false)) (length-table (records_in records_of (acb s))) _
    (c.fill.ensures ∙ ap (sets a.table.now 0) (rows_walked s (accepted-of report (acb s) e)))
