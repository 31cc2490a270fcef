use mathlib.Core.Path.{sym, ◌∙◌}
use Rattle.khuyurek.specs.Reports.{report_kind}
use Rattle.khuyurek.proofs.Reporting.{unknown-reported, known-reported}
use Rattle.khuyurek.proofs.reports.khuyurek_report_add.Goals as goal

pub returns-in-None : goal.returns-in-None
returns-in-None c =
    let a = c.args in
    unknown-reported (report_kind a.kind) a.report.totals a.file.now (sym c.report_kind.ensures ∙ c.in-None.is)

pub returns-in-Some : goal.returns-in-Some
returns-in-Some c =
    let a = c.args in
    known-reported (report_kind a.kind) a.report.totals a.file.now c.exported_report.ensures (sym c.report_kind.ensures ∙ c.in-Some.is) c.add.ensures
