use Prim.Native.Nat.{ℕ}
use mathlib.Core.Path.{ap, ◌∙◌}
use mathlib.Core.List.{List}
use Rattle.report.specs.Answer.{told_file}
use Rattle.report.specs.Report.{FileReport, added}
use Rattle.report.proofs.add.Goals as goal

pub returns : goal.returns
returns c =
    let a = c.args in
    let f = c.file_totals-found.result in
    ap (λ (m : ℕ × List ℕ). (m.0, (told_file f.file).0, (told_file f.file).1, m.1)) c.sum_of-answer.ensures ∙ ap (λ (r : FileReport). added a.report.totals r) c.file_totals-found.ensures
