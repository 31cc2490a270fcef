use mathlib.Core.Path.{ap, ◌∙◌}
use Rattle.khuyurek.specs.Reports.{merged_of}
use Rattle.khuyurek.proofs.reports.khuyurek_report_merge.Goals as goal

pub returns : goal.returns
returns c = c.exported_merge.ensures ∙ ap merged_of c.merge.ensures
