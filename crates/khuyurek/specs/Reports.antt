-- What the exported answers about reports say: number 0 is added, and on a refusal the report is the one given.
use Rattle.std.specs.Prelude.{ℕ, List, Option, Some, None, eqb}
use Rattle.algebra.specs.Reader.{pick}
use Rattle.report.specs.Report.{file_report, added}
use Rattle.report.specs.declared.Kind.{Kind}
use Rattle.report.specs.declared.Kind.TheVariants.{Aco, Ase, Acb, Descriptor}
use Rattle.khuyurek.specs.declared.reports.Reported.{Reported}
use Rattle.khuyurek.specs.declared.reports.MergedReport.{MergedReport}

-- 0 ACO, 1 ASE, 2 ACB, 3 descriptor
unfoldable pub report_kind : ℕ → Option Kind
report_kind n = pick (eqb n 0) (Some Aco) (pick (eqb n 1) (Some Ase) (pick (eqb n 2) (Some Acb) (pick (eqb n 3) (Some Descriptor) None)))

abbrev pub reported_of : ℕ × ℕ × ℕ × List ℕ → Reported
reported_of w = record { number = w.0; file_number = w.1; file_place = w.2; report = record { totals = w.3 } }

-- 4 for any other kind, before all else
abbrev pub reported_by : Option Kind → List ℕ → List ℕ → Reported
reported_by (Some k) t s = reported_of (added t (file_report k s))
reported_by None t s = reported_of (4, 0, 0, t)

abbrev pub merged_of : ℕ × List ℕ → MergedReport
merged_of w = record { number = w.0; report = record { totals = w.1 } }
