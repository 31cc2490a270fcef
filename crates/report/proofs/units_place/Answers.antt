use mathlib.Core.Path.{sym, ap}
use mathlib.Core.Bool.{Bool}
use borrow.Author.Tests.{eq-eqb, ne_eqb}
use Rattle.algebra.specs.Reader.{pick}
use Rattle.report.proofs.units_place.Goals as goal

pub returns-then-units-eq0 : goal.returns-then-units-eq0
returns-then-units-eq0 c = sym (ap (λ (b : Bool). pick b 28 27) (eq-eqb _ _ c.if-units-eq0.true))

pub returns : goal.returns
returns c = sym (ap (λ (b : Bool). pick b 28 27) (ne_eqb _ _ c.if-units-eq0.false))
