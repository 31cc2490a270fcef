use Rattle.descriptor_check.proofs.Turns as T
use Rattle.descriptor_check.proofs.Decided.{decides, denied}
use Rattle.descriptor_columns.proofs.Levels.{level}
use native.Mathlib.Omega.{arith}
use mathlib.Core.Path.{◌≡◌, refl}
use Rattle.descriptor_check.proofs.compare.Goals as goal

pub loop-left-init : goal.loop-left-init
loop-left-init c =
    let a = c.args in
    T.start a.file.now a.due a.arity a.count a.start a.rows a.first.now a.size.now a.next.now a.depth.now a.kind.now _ refl c.requires.0

pub overflow_sub-bytes : goal.overflow_sub-bytes
overflow_sub-bytes c =
    let a = c.args in
    let p = c.requires in
    let o = c.loop-left in
    let l = level o.what o.objects o.left o.row o.from in
    let f = T.facts l o.invariant in
    f.1

pub same_end-requires : goal.same_end-requires
same_end-requires c =
    let a = c.args in
    let p = c.requires in
    let o = c.loop-left in
    let l = level o.what o.objects o.left o.row o.from in
    let f = T.facts l o.invariant in
    (omega (arith, f.0, f.2, p.2), omega (arith, f.0, f.2, p.3))

pub returns-then-d-eq0 : goal.returns-then-d-eq0
returns-then-d-eq0 c =
    let a = c.args in
    let p = c.requires in
    let o = c.loop-left in
    let l = level o.what o.objects o.left o.row o.from in
    let f = T.facts l o.invariant in
    decides c.same_end.ensures (T.turn_end l o.invariant c.if-left-eq0.true c.if-d-eq0.true) (T.told-end l o.invariant c.if-left-eq0.true c.if-d-eq0.true (omega (arith, f.0, f.2, p.2)) (omega (arith, f.0, f.2, p.3)))

pub offset_bounds-saved-d : goal.offset_bounds-saved-d
offset_bounds-saved-d c =
    let a = c.args in
    let p = c.requires in
    let o = c.loop-left in
    let l = level o.what o.objects o.left o.row o.from in
    let f = T.facts l o.invariant in
    omega (arith, f.5)

pub bounds-saved-d : goal.bounds-saved-d
bounds-saved-d c =
    let a = c.args in
    let p = c.requires in
    let o = c.loop-left in
    let l = level o.what o.objects o.left o.row o.from in
    let f = T.facts l o.invariant in
    omega (arith, f.5)

pub same_end-requires-then-left-eq0 : goal.same_end-requires-then-left-eq0
same_end-requires-then-left-eq0 c =
    let a = c.args in
    let p = c.requires in
    let o = c.loop-left in
    let l = level o.what o.objects o.left o.row o.from in
    let f = T.facts l o.invariant in
    (omega (arith, f.0, f.2, p.2), omega (arith, f.0, f.2, p.3))

pub loop-left-smaller-then-same_end : goal.loop-left-smaller-then-same_end
loop-left-smaller-then-same_end c =
    let a = c.args in
    let p = c.requires in
    let o = c.loop-left in
    let l = level o.what o.objects o.left o.row o.from in
    let f = T.facts l o.invariant in
    let z : (o.d ≡ 0 → ⊥) = c.if-d-eq0.false in
    omega (arith, z)

pub loop-left-preserved-then-same_end : goal.loop-left-preserved-then-same_end
loop-left-preserved-then-same_end c =
    let a = c.args in
    let p = c.requires in
    let o = c.loop-left in
    let l = level o.what o.objects o.left o.row o.from in
    let f = T.facts l o.invariant in
    T.turn-close l o.invariant c.if-left-eq0.true c.if-d-eq0.false c.sibling.ensures (c.same_end-then-left-eq0.ensures.yes c.if-same_end.true)

pub returns-then-left-eq0 : goal.returns-then-left-eq0
returns-then-left-eq0 c =
    let a = c.args in
    let p = c.requires in
    let o = c.loop-left in
    let l = level o.what o.objects o.left o.row o.from in
    let f = T.facts l o.invariant in
    denied c.same_end-then-left-eq0.ensures c.if-same_end.false (T.told-close l o.invariant c.if-left-eq0.true c.if-d-eq0.false c.sibling.ensures (omega (arith, f.0, f.2, p.2)) (omega (arith, f.0, f.2, p.3)))

pub overflow_add-d : goal.overflow_add-d
overflow_add-d c =
    let a = c.args in
    let p = c.requires in
    let o = c.loop-left in
    let l = level o.what o.objects o.left o.row o.from in
    let f = T.facts l o.invariant in
    omega (arith, f.5)

pub same_head-requires : goal.same_head-requires
same_head-requires c =
    let a = c.args in
    let p = c.requires in
    let o = c.loop-left in
    let l = level o.what o.objects o.left o.row o.from in
    let f = T.facts l o.invariant in
    let w = T.seen l o.invariant _ c.if-left-eq0.false c.head_to_compare-head.ensures in
    (omega (arith, w.0, p.1), omega (arith, w.0, p.4), omega (arith, w.0, p.5))

pub overflow_add-k : goal.overflow_add-k
overflow_add-k c =
    let a = c.args in
    let p = c.requires in
    let o = c.loop-left in
    let l = level o.what o.objects o.left o.row o.from in
    let f = T.facts l o.invariant in
    omega (arith, f.2, f.4)

pub overflow_sub-end : goal.overflow_sub-end
overflow_sub-end c =
    let a = c.args in
    let p = c.requires in
    let o = c.loop-left in
    let l = level o.what o.objects o.left o.row o.from in
    let f = T.facts l o.invariant in
    let w = T.seen l o.invariant _ c.if-left-eq0.false c.head_to_compare-head.ensures in
    omega (arith, w.1)

pub same_end-requires-then-head-eq0 : goal.same_end-requires-then-head-eq0
same_end-requires-then-head-eq0 c =
    let a = c.args in
    let p = c.requires in
    let o = c.loop-left in
    let l = level o.what o.objects o.left o.row o.from in
    let f = T.facts l o.invariant in
    let w = T.seen l o.invariant _ c.if-left-eq0.false c.head_to_compare-head.ensures in
    (omega (arith, w.0, p.2), omega (arith, w.0, p.3))

pub overflow_add-k-then-same_end-2 : goal.overflow_add-k-then-same_end-2
overflow_add-k-then-same_end-2 c =
    let a = c.args in
    let p = c.requires in
    let o = c.loop-left in
    let l = level o.what o.objects o.left o.row o.from in
    let f = T.facts l o.invariant in
    omega (arith, f.2, f.4)

pub loop-left-smaller-then-same_end-2 : goal.loop-left-smaller-then-same_end-2
loop-left-smaller-then-same_end-2 c =
    let a = c.args in
    let p = c.requires in
    let o = c.loop-left in
    let l = level o.what o.objects o.left o.row o.from in
    let f = T.facts l o.invariant in
    let w = T.seen l o.invariant _ c.if-left-eq0.false c.head_to_compare-head.ensures in
    omega (arith, w.1, w.4, f.6)

pub loop-left-preserved-then-same_end-2 : goal.loop-left-preserved-then-same_end-2
loop-left-preserved-then-same_end-2 c =
    let a = c.args in
    let p = c.requires in
    let o = c.loop-left in
    let l = level o.what o.objects o.left o.row o.from in
    let f = T.facts l o.invariant in
    T.turn-leaf l o.invariant _ c.if-left-eq0.false c.head_to_compare-head.ensures (c.same_head.ensures.yes c.if-same_head.true) c.if-head-eq0.true c.sibling-after.ensures (c.same_end-then-head-eq0.ensures.yes c.if-same_end-2.true)

pub returns-then-head-eq0 : goal.returns-then-head-eq0
returns-then-head-eq0 c =
    let a = c.args in
    let p = c.requires in
    let o = c.loop-left in
    let l = level o.what o.objects o.left o.row o.from in
    let f = T.facts l o.invariant in
    let w = T.seen l o.invariant _ c.if-left-eq0.false c.head_to_compare-head.ensures in
    denied c.same_end-then-head-eq0.ensures c.if-same_end-2.false (T.told-leaf l o.invariant _ c.if-left-eq0.false c.head_to_compare-head.ensures (c.same_head.ensures.yes c.if-same_head.true) c.if-head-eq0.true c.sibling-after.ensures (omega (arith, w.0, p.2)) (omega (arith, w.0, p.3)))

pub offset_bounds-saved-d-then-same_head : goal.offset_bounds-saved-d-then-same_head
offset_bounds-saved-d-then-same_head c =
    let a = c.args in
    let p = c.requires in
    let o = c.loop-left in
    let l = level o.what o.objects o.left o.row o.from in
    let f = T.facts l o.invariant in
    omega (arith, f.5)

pub bounds-saved-d-then-same_head : goal.bounds-saved-d-then-same_head
bounds-saved-d-then-same_head c =
    let a = c.args in
    let p = c.requires in
    let o = c.loop-left in
    let l = level o.what o.objects o.left o.row o.from in
    let f = T.facts l o.invariant in
    omega (arith, f.5)

pub overflow_add-d-then-same_head : goal.overflow_add-d-then-same_head
overflow_add-d-then-same_head c =
    let a = c.args in
    let p = c.requires in
    let o = c.loop-left in
    let l = level o.what o.objects o.left o.row o.from in
    let f = T.facts l o.invariant in
    omega (arith, f.5)

pub overflow_add-k-then-same_head : goal.overflow_add-k-then-same_head
overflow_add-k-then-same_head c =
    let a = c.args in
    let p = c.requires in
    let o = c.loop-left in
    let l = level o.what o.objects o.left o.row o.from in
    let f = T.facts l o.invariant in
    omega (arith, f.2, f.4)

pub loop-left-smaller : goal.loop-left-smaller
loop-left-smaller c =
    let a = c.args in
    let p = c.requires in
    let o = c.loop-left in
    let l = level o.what o.objects o.left o.row o.from in
    let f = T.facts l o.invariant in
    let w = T.seen l o.invariant _ c.if-left-eq0.false c.head_to_compare-head.ensures in
    omega (arith, w.1, w.4, f.6)

pub loop-left-preserved : goal.loop-left-preserved
loop-left-preserved c =
    let a = c.args in
    let p = c.requires in
    let o = c.loop-left in
    let l = level o.what o.objects o.left o.row o.from in
    let f = T.facts l o.invariant in
    T.turn-open l o.invariant _ c.if-left-eq0.false c.head_to_compare-head.ensures (c.same_head.ensures.yes c.if-same_head.true)

pub returns-in-loop-left : goal.returns-in-loop-left
returns-in-loop-left c =
    let a = c.args in
    let p = c.requires in
    let o = c.loop-left in
    let l = level o.what o.objects o.left o.row o.from in
    let f = T.facts l o.invariant in
    let w = T.seen l o.invariant _ c.if-left-eq0.false c.head_to_compare-head.ensures in
    denied c.same_head.ensures c.if-same_head.false (T.told-head l o.invariant _ c.if-left-eq0.false c.head_to_compare-head.ensures (omega (arith, w.0, p.1)) (omega (arith, w.0, p.4)) (omega (arith, w.0, p.5)))
