use mathlib.Core.Path.{◌∙◌}
use native.Mathlib.Omega.{arith}
use Rattle.report.proofs.Counting.{begun, begun-low}
use Rattle.report.proofs.Files.{book-judged, book-few, book-refused, book-accepted}
use Rattle.report.proofs.book_totals.Goals as goal

pub count_records-requires : goal.count_records-requires
count_records-requires c =
    let b = book-judged c.args.file.now c.in-Ok.ensures in
    (book-few c.args.file.now (λ k. omega (arith, c.type_inv.file k)) b, begun-low _ 0 c.tally.ensures)

pub returns-in-Err : goal.returns-in-Err
returns-in-Err c =
    let a = c.args in
    c.refused.ensures ∙ book-refused a.file.now c.in-Err.ensures

pub returns-in-Ok : goal.returns-in-Ok
returns-in-Ok c =
    let a = c.args in
    book-accepted a.file.now (book-judged a.file.now c.in-Ok.ensures) _ _ (begun _ 0 c.tally.ensures) c.count_records.ensures
