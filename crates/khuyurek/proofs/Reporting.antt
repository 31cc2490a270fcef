-- What the exported answers about reports come to. Assumes nothing.
use Prim.Native.Nat.{ℕ}
use mathlib.Core.Path.{◌≡◌, sym, ap, ◌∙◌}
use mathlib.Core.List.{List}
use Rattle.std.specs.Prelude.{Option, Some, None}
use Rattle.report.specs.Report.{file_report, added}
use Rattle.report.specs.declared.Kind.{Kind}
use Rattle.khuyurek.specs.Reports.{reported_of, reported_by}
use Rattle.khuyurek.specs.declared.reports.Reported.{Reported}

module _ (k : Option Kind) (t s : List ℕ) where
  pub unknown-reported : k ≡ None → reported_of (4, 0, 0, t) ≡ reported_by k t s
  unknown-reported e = sym (ap (λ (k : Option Kind). reported_by k t s) e)

  pub known-reported : {r : Reported} {w : ℕ × ℕ × ℕ × List ℕ} {a : Kind} → r ≡ reported_of w → k ≡ Some a → w ≡ added t (file_report a s) → r ≡ reported_by k t s
  known-reported e f h = e ∙ ap reported_of h ∙ sym (ap (λ (k : Option Kind). reported_by k t s) f)
