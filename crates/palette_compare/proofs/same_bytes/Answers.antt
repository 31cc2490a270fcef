use mathlib.Core.Path.{refl, sym}
use native.Mathlib.Omega.{arith}
use Rattle.palette_compare.specs.Compare.{same_numbers}
use Rattle.palette_compare.proofs.Same.{same-lengths}
use Rattle.palette_compare.proofs.Laws.{bytes-turn, bytes-end}
use Rattle.palette_compare.proofs.same_bytes.Goals as goal

pub returns-then-x-y : goal.returns-then-x-y
returns-then-x-y c =
    let a = c.args in
    sym (same-lengths a.x.now a.y.now c.if-x-y.true)

pub loop-i-init : goal.loop-i-init
loop-i-init c = (omega arith, c.if-x-y.false, refl)

pub loop-i-preserved : goal.loop-i-preserved
loop-i-preserved c =
    let a = c.args in
    (omega arith, c.loop-i.invariant.1, bytes-turn a.x.now a.y.now (same_numbers a.x.now a.y.now) c.loop-i.i c.loop-i.any c.unequal-any.result c.loop-i-test.true c.loop-i.invariant.1 c.loop-i.invariant.2 c.unequal-any.ensures)

pub returns : goal.returns
returns c =
    let a = c.args in
    sym (bytes-end a.x.now a.y.now (same_numbers a.x.now a.y.now) c.loop-i.i c.loop-i.any c.loop-i-test.false c.loop-i.invariant.1 c.loop-i.invariant.2)
