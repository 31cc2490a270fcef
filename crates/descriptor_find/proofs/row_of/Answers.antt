use Rattle.descriptor_find.proofs.Children as C
use Rattle.algebra.specs.Numbers.{nums}
use native.Mathlib.Omega.{arith}
use Rattle.descriptor_find.proofs.row_of.Goals as goal

pub loop-j-init : goal.loop-j-init
loop-j-init c =
    let a = c.args in
    λ t. C.walk_start a.file.now a.first.now a.next.now a.rows t (a.tag, nums 1 a.size a.keys.now a.body)

pub offset_bounds-first-j : goal.offset_bounds-first-j
offset_bounds-first-j c =
    let a = c.args in
    let p = c.requires in
    let t = p.0 in
    let m = C.room a.file.now a.first.now a.next.now a.rows t in
    let o = c.loop-j in
    let l = c.loop-j-test.true in
    omega (arith, l, m.2)

pub bounds-first-j : goal.bounds-first-j
bounds-first-j c =
    let a = c.args in
    let p = c.requires in
    let t = p.0 in
    let m = C.room a.file.now a.first.now a.next.now a.rows t in
    let o = c.loop-j in
    let l = c.loop-j-test.true in
    omega (arith, l, m.0)

pub same_key-requires : goal.same_key-requires
same_key-requires c =
    let a = c.args in
    let p = c.requires in
    let t = p.0 in
    let m = C.room a.file.now a.first.now a.next.now a.rows t in
    let w = c.type_inv.first c.loop-j.j in
    (omega arith, p.1, p.2, p.3)

pub returns-then-same_key : goal.returns-then-same_key
returns-then-same_key c =
    let a = c.args in
    let p = c.requires in
    let t = p.0 in
    let m = C.room a.file.now a.first.now a.next.now a.rows t in
    let o = c.loop-j in
    let l = c.loop-j-test.true in
    let e = c.same_key.ensures in
    (C.walk-found a.file.now a.first.now a.next.now a.rows t (a.tag, nums 1 a.size a.keys.now a.body) o.j (o.invariant t) l _ e c.if-same_key.true, omega (arith, l))

pub offset_bounds-next-j : goal.offset_bounds-next-j
offset_bounds-next-j c =
    let a = c.args in
    let p = c.requires in
    let t = p.0 in
    let m = C.room a.file.now a.first.now a.next.now a.rows t in
    let o = c.loop-j in
    let l = c.loop-j-test.true in
    omega (arith, l, m.2)

pub bounds-next-j : goal.bounds-next-j
bounds-next-j c =
    let a = c.args in
    let p = c.requires in
    let t = p.0 in
    let m = C.room a.file.now a.first.now a.next.now a.rows t in
    let o = c.loop-j in
    let l = c.loop-j-test.true in
    omega (arith, l, m.1)

pub loop-j-smaller : goal.loop-j-smaller
loop-j-smaller c =
    let a = c.args in
    let p = c.requires in
    let t = p.0 in
    let m = C.room a.file.now a.first.now a.next.now a.rows t in
    let o = c.loop-j in
    let l = c.loop-j-test.true in
    let e = c.same_key.ensures in
    let n = (C.walk-on a.file.now a.first.now a.next.now a.rows t (a.tag, nums 1 a.size a.keys.now a.body) o.j (o.invariant t) l _ e c.if-same_key.false).0 in
    omega (arith, l, n)

pub loop-j-preserved : goal.loop-j-preserved
loop-j-preserved c =
    let a = c.args in
    let o = c.loop-j in
    let l = c.loop-j-test.true in
    let e = c.same_key.ensures in
    λ t. (C.walk-on a.file.now a.first.now a.next.now a.rows t (a.tag, nums 1 a.size a.keys.now a.body) o.j (o.invariant t) l _ e c.if-same_key.false).1

pub returns : goal.returns
returns c =
    let a = c.args in
    let p = c.requires in
    let t = p.0 in
    let m = C.room a.file.now a.first.now a.next.now a.rows t in
    let o = c.loop-j in
    (C.walk_end a.file.now a.first.now a.next.now a.rows t (a.tag, nums 1 a.size a.keys.now a.body) o.j (o.invariant t) c.loop-j-test.false, omega arith)
