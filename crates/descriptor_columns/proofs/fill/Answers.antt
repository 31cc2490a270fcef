use Prim.Native.Nat.{◌+◌, ◌-◌, ◌≤◌}
use mathlib.Core.Path.{◌≡◌, refl, ap, ◌∙◌}
use lib.Dec.{eqb}
use lib.ListN.{length, get_or, length-set}
use native.Mathlib.Omega.{arith}
use Rattle.algebra.specs.Reader.{pick}
use Rattle.descriptor_columns.specs.scaffold.Filling.{rest}
use Rattle.descriptor_columns.proofs.Levels.{level, nothing}
use Rattle.descriptor_columns.proofs.Turns as T
use Rattle.descriptor_columns.proofs.fill.Goals as goal

pub loop-left-init : goal.loop-left-init
loop-left-init c =
    let a = c.args in
    T.start a.file.now a.due a.arity a.count a.start a.rows a.first.now a.size.now a.next.now a.depth.now a.kind.now _ refl c.requires.0

pub overflow_sub-bytes : goal.overflow_sub-bytes
overflow_sub-bytes c =
    let a = c.args in
    let p = c.requires in
    let o = c.loop-left in
    let g = o.invariant in
    let l = level o.what o.objects o.left o.row o.from in
    let f = T.facts a.file.now a.rows (rest a.file.now a.due a.arity a.count a.start) a.first.now a.size.now a.next.now a.depth.now a.kind.now l g in
    f.1

pub put_end-requires : goal.put_end-requires
put_end-requires c =
    let a = c.args in
    let p = c.requires in
    let o = c.loop-left in
    let g = o.invariant in
    let l = level o.what o.objects o.left o.row o.from in
    let f = T.facts a.file.now a.rows (rest a.file.now a.due a.arity a.count a.start) a.first.now a.size.now a.next.now a.depth.now a.kind.now l g in
    omega (arith, f.0, f.1, f.2, f.3, f.4, g.lb, g.lc, p.2, p.3)

pub shape_of-first-then-d-eq0 : goal.shape_of-first-then-d-eq0
shape_of-first-then-d-eq0 c =
    let a = c.args in
    let p = c.requires in
    let o = c.loop-left in
    let g = o.invariant in
    let l = level o.what o.objects o.left o.row o.from in
    let f = T.facts a.file.now a.rows (rest a.file.now a.due a.arity a.count a.start) a.first.now a.size.now a.next.now a.depth.now a.kind.now l g in
    g.la

pub shape_of-size-then-d-eq0 : goal.shape_of-size-then-d-eq0
shape_of-size-then-d-eq0 c =
    let a = c.args in
    let p = c.requires in
    let o = c.loop-left in
    let g = o.invariant in
    let l = level o.what o.objects o.left o.row o.from in
    let f = T.facts a.file.now a.rows (rest a.file.now a.due a.arity a.count a.start) a.first.now a.size.now a.next.now a.depth.now a.kind.now l g in
    ap length c.put_end.ensures.0 ∙ length-set o.size o.row (o.at - o.from) ∙ g.lb

pub shape_of-next-then-d-eq0 : goal.shape_of-next-then-d-eq0
shape_of-next-then-d-eq0 c =
    let a = c.args in
    let p = c.requires in
    let o = c.loop-left in
    let g = o.invariant in
    let l = level o.what o.objects o.left o.row o.from in
    let f = T.facts a.file.now a.rows (rest a.file.now a.due a.arity a.count a.start) a.first.now a.size.now a.next.now a.depth.now a.kind.now l g in
    ap length c.put_end.ensures.1 ∙ length-set o.next o.row a.rows ∙ g.lc

pub shape_of-depth-then-d-eq0 : goal.shape_of-depth-then-d-eq0
shape_of-depth-then-d-eq0 c =
    let a = c.args in
    let p = c.requires in
    let o = c.loop-left in
    let g = o.invariant in
    let l = level o.what o.objects o.left o.row o.from in
    let f = T.facts a.file.now a.rows (rest a.file.now a.due a.arity a.count a.start) a.first.now a.size.now a.next.now a.depth.now a.kind.now l g in
    g.ld

pub shape_of-kind-then-d-eq0 : goal.shape_of-kind-then-d-eq0
shape_of-kind-then-d-eq0 c =
    let a = c.args in
    let p = c.requires in
    let o = c.loop-left in
    let g = o.invariant in
    let l = level o.what o.objects o.left o.row o.from in
    let f = T.facts a.file.now a.rows (rest a.file.now a.due a.arity a.count a.start) a.first.now a.size.now a.next.now a.depth.now a.kind.now l g in
    g.le

pub returns-then-d-eq0 : goal.returns-then-d-eq0
returns-then-d-eq0 c =
    let a = c.args in
    let p = c.requires in
    let o = c.loop-left in
    let g = o.invariant in
    let l = level o.what o.objects o.left o.row o.from in
    let f = T.facts a.file.now a.rows (rest a.file.now a.due a.arity a.count a.start) a.first.now a.size.now a.next.now a.depth.now a.kind.now l g in
    T.turn_end a.file.now a.rows (rest a.file.now a.due a.arity a.count a.start) a.first.now a.size.now a.next.now a.depth.now a.kind.now l g c.if-left-eq0.true c.if-d-eq0.true c.put_end.ensures.0 c.put_end.ensures.1

pub offset_bounds-saved-d : goal.offset_bounds-saved-d
offset_bounds-saved-d c =
    let a = c.args in
    let p = c.requires in
    let o = c.loop-left in
    let g = o.invariant in
    let l = level o.what o.objects o.left o.row o.from in
    let f = T.facts a.file.now a.rows (rest a.file.now a.due a.arity a.count a.start) a.first.now a.size.now a.next.now a.depth.now a.kind.now l g in
    omega (arith, f.5)

pub bounds-saved-d : goal.bounds-saved-d
bounds-saved-d c =
    let a = c.args in
    let p = c.requires in
    let o = c.loop-left in
    let g = o.invariant in
    let l = level o.what o.objects o.left o.row o.from in
    let f = T.facts a.file.now a.rows (rest a.file.now a.due a.arity a.count a.start) a.first.now a.size.now a.next.now a.depth.now a.kind.now l g in
    omega (arith, f.5)

pub put_end-requires-then-left-eq0 : goal.put_end-requires-then-left-eq0
put_end-requires-then-left-eq0 c =
    let a = c.args in
    let p = c.requires in
    let o = c.loop-left in
    let g = o.invariant in
    let l = level o.what o.objects o.left o.row o.from in
    let f = T.facts a.file.now a.rows (rest a.file.now a.due a.arity a.count a.start) a.first.now a.size.now a.next.now a.depth.now a.kind.now l g in
    let v : pick (eqb (get_or o.saved (o.d - 1) nothing).left 0) a.rows o.k ≤ 16777216 = T.pick-most (eqb (get_or o.saved (o.d - 1) nothing).left 0) a.rows o.k 16777216 f.4 (omega (arith, f.2, f.4)) in
    omega (arith, f.0, f.1, f.2, f.3, f.4, g.lb, g.lc, p.2, p.3, c.sibling.ensures, v)

pub loop-left-smaller-then-left-eq0 : goal.loop-left-smaller-then-left-eq0
loop-left-smaller-then-left-eq0 c =
    let a = c.args in
    let p = c.requires in
    let o = c.loop-left in
    let g = o.invariant in
    let l = level o.what o.objects o.left o.row o.from in
    let f = T.facts a.file.now a.rows (rest a.file.now a.due a.arity a.count a.start) a.first.now a.size.now a.next.now a.depth.now a.kind.now l g in
    let z : (o.d ≡ 0 → ⊥) = c.if-d-eq0.false in
    omega (arith, z)

pub loop-left-preserved-then-left-eq0 : goal.loop-left-preserved-then-left-eq0
loop-left-preserved-then-left-eq0 c =
    let a = c.args in
    let p = c.requires in
    let o = c.loop-left in
    let g = o.invariant in
    let l = level o.what o.objects o.left o.row o.from in
    let f = T.facts a.file.now a.rows (rest a.file.now a.due a.arity a.count a.start) a.first.now a.size.now a.next.now a.depth.now a.kind.now l g in
    T.turn-close a.file.now a.rows (rest a.file.now a.due a.arity a.count a.start) a.first.now a.size.now a.next.now a.depth.now a.kind.now l g c.if-left-eq0.true c.if-d-eq0.false c.put_end-then-left-eq0.ensures.0 c.put_end-then-left-eq0.ensures.1 c.sibling.ensures

pub overflow_add-d : goal.overflow_add-d
overflow_add-d c =
    let a = c.args in
    let p = c.requires in
    let o = c.loop-left in
    let g = o.invariant in
    let l = level o.what o.objects o.left o.row o.from in
    let f = T.facts a.file.now a.rows (rest a.file.now a.due a.arity a.count a.start) a.first.now a.size.now a.next.now a.depth.now a.kind.now l g in
    omega (arith, f.5)

pub put_head-requires : goal.put_head-requires
put_head-requires c =
    let a = c.args in
    let p = c.requires in
    let o = c.loop-left in
    let g = o.invariant in
    let l = level o.what o.objects o.left o.row o.from in
    let f = T.facts a.file.now a.rows (rest a.file.now a.due a.arity a.count a.start) a.first.now a.size.now a.next.now a.depth.now a.kind.now l g in
    let w = T.seen a.file.now a.rows (rest a.file.now a.due a.arity a.count a.start) a.first.now a.size.now a.next.now a.depth.now a.kind.now l g _ c.if-left-eq0.false c.head_to_fill-head.ensures in
    omega (arith, w.0, w.1, w.2, w.3, f.3, g.la, g.ld, g.le, p.1, p.4, p.5)

pub overflow_sub-end : goal.overflow_sub-end
overflow_sub-end c =
    let a = c.args in
    let p = c.requires in
    let o = c.loop-left in
    let g = o.invariant in
    let l = level o.what o.objects o.left o.row o.from in
    let f = T.facts a.file.now a.rows (rest a.file.now a.due a.arity a.count a.start) a.first.now a.size.now a.next.now a.depth.now a.kind.now l g in
    let w = T.seen a.file.now a.rows (rest a.file.now a.due a.arity a.count a.start) a.first.now a.size.now a.next.now a.depth.now a.kind.now l g _ c.if-left-eq0.false c.head_to_fill-head.ensures in
    omega (arith, w.1)

pub overflow_add-k : goal.overflow_add-k
overflow_add-k c =
    let a = c.args in
    let p = c.requires in
    let o = c.loop-left in
    let g = o.invariant in
    let l = level o.what o.objects o.left o.row o.from in
    let f = T.facts a.file.now a.rows (rest a.file.now a.due a.arity a.count a.start) a.first.now a.size.now a.next.now a.depth.now a.kind.now l g in
    omega (arith, f.2, f.4)

pub put_end-requires-then-head-eq0 : goal.put_end-requires-then-head-eq0
put_end-requires-then-head-eq0 c =
    let a = c.args in
    let p = c.requires in
    let o = c.loop-left in
    let g = o.invariant in
    let l = level o.what o.objects o.left o.row o.from in
    let f = T.facts a.file.now a.rows (rest a.file.now a.due a.arity a.count a.start) a.first.now a.size.now a.next.now a.depth.now a.kind.now l g in
    let w = T.seen a.file.now a.rows (rest a.file.now a.due a.arity a.count a.start) a.first.now a.size.now a.next.now a.depth.now a.kind.now l g _ c.if-left-eq0.false c.head_to_fill-head.ensures in
    let v : pick (eqb (o.left - 1) 0) a.rows (o.k + 1) ≤ 16777216 = T.pick-most (eqb (o.left - 1) 0) a.rows (o.k + 1) 16777216 f.4 (omega (arith, w.0, f.4)) in
    omega (arith, w.0, w.1, w.2, f.3, g.lb, g.lc, p.2, p.3, c.sibling-then-head-eq0.ensures, v)

pub overflow_add-k-then-head-eq0 : goal.overflow_add-k-then-head-eq0
overflow_add-k-then-head-eq0 c =
    let a = c.args in
    let p = c.requires in
    let o = c.loop-left in
    let g = o.invariant in
    let l = level o.what o.objects o.left o.row o.from in
    let f = T.facts a.file.now a.rows (rest a.file.now a.due a.arity a.count a.start) a.first.now a.size.now a.next.now a.depth.now a.kind.now l g in
    omega (arith, f.2, f.4)

pub loop-left-smaller-then-head-eq0 : goal.loop-left-smaller-then-head-eq0
loop-left-smaller-then-head-eq0 c =
    let a = c.args in
    let p = c.requires in
    let o = c.loop-left in
    let g = o.invariant in
    let l = level o.what o.objects o.left o.row o.from in
    let f = T.facts a.file.now a.rows (rest a.file.now a.due a.arity a.count a.start) a.first.now a.size.now a.next.now a.depth.now a.kind.now l g in
    let w = T.seen a.file.now a.rows (rest a.file.now a.due a.arity a.count a.start) a.first.now a.size.now a.next.now a.depth.now a.kind.now l g _ c.if-left-eq0.false c.head_to_fill-head.ensures in
    omega (arith, w.1, w.4, f.6)

pub loop-left-preserved-then-head-eq0 : goal.loop-left-preserved-then-head-eq0
loop-left-preserved-then-head-eq0 c =
    let a = c.args in
    let p = c.requires in
    let o = c.loop-left in
    let g = o.invariant in
    let l = level o.what o.objects o.left o.row o.from in
    let f = T.facts a.file.now a.rows (rest a.file.now a.due a.arity a.count a.start) a.first.now a.size.now a.next.now a.depth.now a.kind.now l g in
    T.turn-leaf a.file.now a.rows (rest a.file.now a.due a.arity a.count a.start) a.first.now a.size.now a.next.now a.depth.now a.kind.now l g _ c.if-left-eq0.false c.head_to_fill-head.ensures c.if-head-eq0.true c.put_head.ensures.0 c.put_end-then-head-eq0.ensures.0 c.put_end-then-head-eq0.ensures.1 c.sibling-then-head-eq0.ensures c.put_head.ensures.1 c.put_head.ensures.2

pub offset_bounds-saved-d-in-loop-left : goal.offset_bounds-saved-d-in-loop-left
offset_bounds-saved-d-in-loop-left c =
    let a = c.args in
    let p = c.requires in
    let o = c.loop-left in
    let g = o.invariant in
    let l = level o.what o.objects o.left o.row o.from in
    let f = T.facts a.file.now a.rows (rest a.file.now a.due a.arity a.count a.start) a.first.now a.size.now a.next.now a.depth.now a.kind.now l g in
    omega (arith, f.5)

pub bounds-saved-d-in-loop-left : goal.bounds-saved-d-in-loop-left
bounds-saved-d-in-loop-left c =
    let a = c.args in
    let p = c.requires in
    let o = c.loop-left in
    let g = o.invariant in
    let l = level o.what o.objects o.left o.row o.from in
    let f = T.facts a.file.now a.rows (rest a.file.now a.due a.arity a.count a.start) a.first.now a.size.now a.next.now a.depth.now a.kind.now l g in
    omega (arith, f.5)

pub overflow_add-d-in-loop-left : goal.overflow_add-d-in-loop-left
overflow_add-d-in-loop-left c =
    let a = c.args in
    let p = c.requires in
    let o = c.loop-left in
    let g = o.invariant in
    let l = level o.what o.objects o.left o.row o.from in
    let f = T.facts a.file.now a.rows (rest a.file.now a.due a.arity a.count a.start) a.first.now a.size.now a.next.now a.depth.now a.kind.now l g in
    omega (arith, f.5)

pub overflow_add-k-in-loop-left : goal.overflow_add-k-in-loop-left
overflow_add-k-in-loop-left c =
    let a = c.args in
    let p = c.requires in
    let o = c.loop-left in
    let g = o.invariant in
    let l = level o.what o.objects o.left o.row o.from in
    let f = T.facts a.file.now a.rows (rest a.file.now a.due a.arity a.count a.start) a.first.now a.size.now a.next.now a.depth.now a.kind.now l g in
    omega (arith, f.2, f.4)

pub loop-left-smaller : goal.loop-left-smaller
loop-left-smaller c =
    let a = c.args in
    let p = c.requires in
    let o = c.loop-left in
    let g = o.invariant in
    let l = level o.what o.objects o.left o.row o.from in
    let f = T.facts a.file.now a.rows (rest a.file.now a.due a.arity a.count a.start) a.first.now a.size.now a.next.now a.depth.now a.kind.now l g in
    let w = T.seen a.file.now a.rows (rest a.file.now a.due a.arity a.count a.start) a.first.now a.size.now a.next.now a.depth.now a.kind.now l g _ c.if-left-eq0.false c.head_to_fill-head.ensures in
    omega (arith, w.1, w.4, f.6)

pub loop-left-preserved : goal.loop-left-preserved
loop-left-preserved c =
    let a = c.args in
    let p = c.requires in
    let o = c.loop-left in
    let g = o.invariant in
    let l = level o.what o.objects o.left o.row o.from in
    let f = T.facts a.file.now a.rows (rest a.file.now a.due a.arity a.count a.start) a.first.now a.size.now a.next.now a.depth.now a.kind.now l g in
    T.turn-open a.file.now a.rows (rest a.file.now a.due a.arity a.count a.start) a.first.now a.size.now a.next.now a.depth.now a.kind.now l g _ c.if-left-eq0.false c.head_to_fill-head.ensures c.put_head.ensures.0 c.put_head.ensures.1 c.put_head.ensures.2
