use native.Mathlib.Omega.{arith}
use mathlib.Core.Path.{sym, ap}
use borrow.Author.Tests.{ne_eqb}
use Rattle.report.specs.Report.{book_place}
use Rattle.report.proofs.book_place.Goals as goal

pub returns-in-0 : goal.returns-in-0
returns-in-0 c = ap book_place (sym c.in-0.is)

pub returns-in-2 : goal.returns-in-2
returns-in-2 c = ap book_place (sym c.in-2.is)

pub returns-in_default : goal.returns-in_default
returns-in_default c = simp (ne_eqb c.args.space 0 (λ e. omega arith), ne_eqb c.args.space 2 (λ e. omega arith))
