use mathlib.Core.Path.{sym, ap}
use borrow.Author.Tests.{ne_eqb}
use Rattle.khuyurek.specs.Reports.{report_kind}
use Rattle.khuyurek.proofs.reports.report_kind.Goals as goal

pub returns-in-0 : goal.returns-in-0
unfolding report_kind
returns-in-0 c = ap report_kind (sym c.in-0.is)

pub returns-in-1 : goal.returns-in-1
unfolding report_kind
returns-in-1 c = ap report_kind (sym c.in-1.is)

pub returns-in-2 : goal.returns-in-2
unfolding report_kind
returns-in-2 c = ap report_kind (sym c.in-2.is)

pub returns-in-3 : goal.returns-in-3
unfolding report_kind
returns-in-3 c = ap report_kind (sym c.in-3.is)

pub returns-in_default : goal.returns-in_default
unfolding report_kind
returns-in_default c = let r = c.in_default.in_default-own.rest in simp (ne_eqb _ _ r.0.0.0.1, ne_eqb _ _ r.0.0.1, ne_eqb _ _ r.0.1, ne_eqb _ _ r.1)
