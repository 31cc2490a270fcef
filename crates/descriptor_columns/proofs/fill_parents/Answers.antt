use mathlib.Core.Path.{◌∙◌}
use lib.ListN.{length-set}
use native.Mathlib.Omega.{arith}
use Rattle.descriptor_columns.proofs.Upward as U
use Rattle.descriptor_columns.proofs.fill_parents.Goals as goal

pub loop-i-init : goal.loop-i-init
loop-i-init c =
    let a = c.args in
    U.storing-start a.depth.now a.parents.now

pub parent_of-p-requires : goal.parent_of-p-requires
parent_of-p-requires c =
    let a = c.args in
    let p = c.requires in
    let o = c.loop-i in
    let g = o.invariant in
    (g.stands, c.loop-i-test.true, omega (arith, c.loop-i-test.true, p.0, g.size))

pub overflow_cast-parents : goal.overflow_cast-parents
overflow_cast-parents c =
    let a = c.args in
    let p = c.requires in
    let o = c.loop-i in
    let g = o.invariant in
    omega (arith, c.parent_of-p.ensures.1, c.loop-i-test.true, p.1)

pub offset_bounds-parents-i : goal.offset_bounds-parents-i
offset_bounds-parents-i c =
    let a = c.args in
    let p = c.requires in
    let o = c.loop-i in
    let g = o.invariant in
    omega (arith, c.loop-i-test.true, p.1)

pub bounds-parents-i : goal.bounds-parents-i
bounds-parents-i c =
    let a = c.args in
    let p = c.requires in
    let o = c.loop-i in
    let g = o.invariant in
    omega (arith, c.loop-i-test.true, p.0, g.size)

pub loop-i-preserved : goal.loop-i-preserved
loop-i-preserved c =
    let a = c.args in
    let p = c.requires in
    let o = c.loop-i in
    let g = o.invariant in
    U.storing-turn a.depth.now _ c.loop-i-test.true (omega (arith, c.loop-i-test.true, p.0, g.size)) c.parent_of-p.ensures.0 g (length-set o.parents o.i _ ∙ g.size)

pub shape_of-parents : goal.shape_of-parents
shape_of-parents c =
    let a = c.args in
    let p = c.requires in
    let o = c.loop-i in
    let g = o.invariant in
    g.size

pub returns : goal.returns
returns c =
    let a = c.args in
    let p = c.requires in
    let o = c.loop-i in
    let g = o.invariant in
    U.storing-end a.depth.now c.loop-i-test.false p.0 g
