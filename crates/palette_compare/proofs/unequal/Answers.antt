use mathlib.Core.Path.{sym, ap}
use mathlib.Core.Bool.{Bool}
use borrow.Author.Tests.{eq-eqb, ne_eqb}
use Rattle.algebra.specs.Reader.{pick}
use Rattle.palette_compare.proofs.unequal.Goals as goal

pub returns-then-x-y : goal.returns-then-x-y
returns-then-x-y c = sym (ap (λ (b : Bool). pick b 0 1) (eq-eqb _ _ c.if-x-y.true))

pub returns : goal.returns
returns c = sym (ap (λ (b : Bool). pick b 0 1) (ne_eqb _ _ c.if-x-y.false))
