use mathlib.Core.Path.{sym, ap}
use mathlib.Core.Bool.{Bool}
use borrow.Author.Tests.{eq-eqb, ne_eqb}
use Rattle.algebra.specs.Reader.{pick}
use Rattle.descriptor_columns.proofs.sibling.Goals as goal

pub returns-then-left-eq0 : goal.returns-then-left-eq0
returns-then-left-eq0 c = let a = c.args in sym (ap (λ (b : Bool). pick b a.rows a.row) (eq-eqb a.left 0 c.if-left-eq0.true))

pub returns : goal.returns
returns c = let a = c.args in sym (ap (λ (b : Bool). pick b a.rows a.row) (ne_eqb a.left 0 c.if-left-eq0.false))
