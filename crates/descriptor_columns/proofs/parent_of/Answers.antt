use mathlib.Core.Path.{refl}
use native.Mathlib.Omega.{arith}
use Rattle.descriptor_columns.proofs.Upward as U
use Rattle.descriptor_columns.proofs.parent_of.Goals as goal

pub returns-then-i-eq0 : goal.returns-then-i-eq0
returns-then-i-eq0 c =
    let a = c.args in
    (U.first-parent a.depth.now a.i c.if-i-eq0.true, omega arith)

pub loop-j-init : goal.loop-j-init
loop-j-init c =
    let a = c.args in
    U.rising-start a.depth.now c.if-i-eq0.false

pub returns-then-j-eq0 : goal.returns-then-j-eq0
returns-then-j-eq0 c =
    let a = c.args in
    let p = c.requires in
    let o = c.loop-j in
    let g = o.invariant in
    (U.rising-first a.depth.now g c.if-j-eq0.true, omega arith)

pub offset_bounds-depth-j : goal.offset_bounds-depth-j
offset_bounds-depth-j c =
    let a = c.args in
    let p = c.requires in
    let o = c.loop-j in
    let g = o.invariant in
    omega (arith, g.below, p.1)

pub bounds-depth-j : goal.bounds-depth-j
bounds-depth-j c =
    let a = c.args in
    let p = c.requires in
    let o = c.loop-j in
    let g = o.invariant in
    omega (arith, g.below, p.1)

pub returns-then-depth-j : goal.returns-then-depth-j
returns-then-depth-j c =
    let a = c.args in
    let p = c.requires in
    let o = c.loop-j in
    let g = o.invariant in
    (U.rising-found a.depth.now g c.if-depth-j.true, omega (arith, g.below))

pub offset_bounds-parents-j : goal.offset_bounds-parents-j
offset_bounds-parents-j c =
    let a = c.args in
    let p = c.requires in
    let o = c.loop-j in
    let g = o.invariant in
    omega (arith, g.below, p.2)

pub bounds-parents-j : goal.bounds-parents-j
bounds-parents-j c =
    let a = c.args in
    let p = c.requires in
    let o = c.loop-j in
    let g = o.invariant in
    omega (arith, g.below, p.2)

pub loop-j-smaller : goal.loop-j-smaller
loop-j-smaller c =
    let a = c.args in
    let p = c.requires in
    let o = c.loop-j in
    let g = o.invariant in
    (U.rising-up a.depth.now g c.if-j-eq0.false c.if-depth-j.false p.0 refl).0

pub loop-j-preserved : goal.loop-j-preserved
loop-j-preserved c =
    let a = c.args in
    let p = c.requires in
    let o = c.loop-j in
    let g = o.invariant in
    (U.rising-up a.depth.now g c.if-j-eq0.false c.if-depth-j.false p.0 refl).1
