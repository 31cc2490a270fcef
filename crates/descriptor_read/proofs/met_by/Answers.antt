use mathlib.Core.Path.{sym, ap}
use mathlib.Core.Bool.{Bool}
use borrow.Author.Tests.{eq-eqb, ne_eqb}
use Rattle.descriptor_read.specs.scaffold.Extents.{met_by}
use Rattle.descriptor_read.proofs.met_by.Goals as goal

pub returns-then-k-row : goal.returns-then-k-row
returns-then-k-row c =
    let a = c.args in
    sym (ap (λ (b : Bool). met_by a.met b a.depth a.head) (eq-eqb a.k a.row c.if-k-row.true))

pub returns : goal.returns
returns c =
    let a = c.args in
    sym (ap (λ (b : Bool). met_by a.met b a.depth a.head) (ne_eqb a.k a.row c.if-k-row.false))
