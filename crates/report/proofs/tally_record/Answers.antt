use Prim.Native.Nat.{ℕ}
use mathlib.Core.Path.{sym, ap, ◌∙◌}
use mathlib.Core.Bool.{Bool}
use borrow.Author.Tests.{eq-eqb, ne_eqb}
use native.Mathlib.Omega.{arith}
use Rattle.algebra.specs.Reader.{pick}
use Rattle.report.specs.Report.{one, plus, book_place}
use Rattle.report.proofs.tally_record.Goals as goal

pub tally-requires : goal.tally-requires
tally-requires c = (c.requires.long, omega (arith, c.requires.below 29))

pub returns-then-units-eq0 : goal.returns-then-units-eq0
returns-then-units-eq0 c =
    c.tally.ensures ∙ ap (λ (b : Bool). plus c.args.totals.now (pick b (one 29) (plus (one (book_place c.args.space)) (one 27)))) (sym (eq-eqb _ _ c.if-units-eq0.true))

pub returns : goal.returns
returns c =
    c.tally_two.ensures ∙ ap (λ (p : ℕ). plus c.args.totals.now (plus (one p) (one 27))) c.book_place.ensures
    ∙ ap (λ (b : Bool). plus c.args.totals.now (pick b (one 29) (plus (one (book_place c.args.space)) (one 27)))) (sym (ne_eqb _ _ c.if-units-eq0.false))
