use Rattle.algebra.specs.Reader.{pick}
use borrow.Author.Tests.{eq-eqb, ne_eqb}
use native.Mathlib.Omega.{arith}
use mathlib.Core.Bool.{Bool}
use mathlib.Core.Path.{sym, ap}
use Rattle.descriptor_find.proofs.body_size.Goals as goal

pub returns-then-length-eq0 : goal.returns-then-length-eq0
returns-then-length-eq0 c =
    let a = c.args in
    (sym (ap (λ (b : Bool). pick b 4 a.length) (eq-eqb a.length 0 c.if-length-eq0.true)), omega arith)

pub returns : goal.returns
returns c =
    let a = c.args in
    (sym (ap (λ (b : Bool). pick b 4 a.length) (ne_eqb a.length 0 c.if-length-eq0.false)), omega arith)
