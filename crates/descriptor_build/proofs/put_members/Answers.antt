use mathlib.Core.Path.{◌≡◌, refl}
use native.Mathlib.Omega.{arith}
use Rattle.descriptor_build.proofs.Loops as W
use Rattle.descriptor_build.proofs.put_members.Goals as goal

pub loop-left-init : goal.loop-left-init
loop-left-init c =
    let a = c.args in
    W.start_loop a.text.now a.entries.now a.n a.out.now a.start a.count c.requires _ refl

pub shape_of-out-then-d-eq0 : goal.shape_of-out-then-d-eq0
shape_of-out-then-d-eq0 c =
    let o = c.loop-left in
    let a = c.args in
    let g = o.invariant in
    let l = W.lv o.what o.objects o.left in
    g.kept

pub returns-then-d-eq0 : goal.returns-then-d-eq0
returns-then-d-eq0 c =
    let o = c.loop-left in
    let a = c.args in
    let g = o.invariant in
    let l = W.lv o.what o.objects o.left in
    W.turn_end a.text.now a.entries.now a.n a.out.now _ a.start l g c.if-left-eq0.true c.if-d-eq0.true

pub offset_bounds-saved-d : goal.offset_bounds-saved-d
offset_bounds-saved-d c =
    let o = c.loop-left in
    let a = c.args in
    let g = o.invariant in
    let l = W.lv o.what o.objects o.left in
    omega (arith, g.deep)

pub bounds-saved-d : goal.bounds-saved-d
bounds-saved-d c =
    let o = c.loop-left in
    let a = c.args in
    let g = o.invariant in
    let l = W.lv o.what o.objects o.left in
    omega (arith, g.deep)

pub loop-left-smaller-then-left-eq0 : goal.loop-left-smaller-then-left-eq0
loop-left-smaller-then-left-eq0 c =
    let o = c.loop-left in
    let a = c.args in
    let g = o.invariant in
    let l = W.lv o.what o.objects o.left in
    let z : (o.d ≡ 0 → ⊥) = c.if-d-eq0.false in
    omega (arith, z)

pub loop-left-preserved-then-left-eq0 : goal.loop-left-preserved-then-left-eq0
loop-left-preserved-then-left-eq0 c =
    let o = c.loop-left in
    let a = c.args in
    let g = o.invariant in
    let l = W.lv o.what o.objects o.left in
    W.turn-close a.text.now a.entries.now a.n a.out.now _ a.start l g c.if-left-eq0.true c.if-d-eq0.false

pub put_at-head-requires : goal.put_at-head-requires
put_at-head-requires c =
    let o = c.loop-left in
    let a = c.args in
    let g = o.invariant in
    let l = W.lv o.what o.objects o.left in
    (omega (arith, W.some_left a.text.now a.entries.now a.n a.out.now _ a.start l g c.if-left-eq0.false, c.requires.inside), W.head-ready a.text.now a.entries.now a.n a.out.now _ a.start l g c.if-left-eq0.false)

pub overflow_add-k : goal.overflow_add-k
overflow_add-k c =
    let o = c.loop-left in
    let a = c.args in
    let g = o.invariant in
    let l = W.lv o.what o.objects o.left in
    omega (arith, W.some_left a.text.now a.entries.now a.n a.out.now _ a.start l g c.if-left-eq0.false, c.requires.inside)

pub loop-left-smaller-then-head-eq0 : goal.loop-left-smaller-then-head-eq0
loop-left-smaller-then-head-eq0 c =
    let o = c.loop-left in
    let a = c.args in
    let g = o.invariant in
    let l = W.lv o.what o.objects o.left in
    omega (arith, W.some_left a.text.now a.entries.now a.n a.out.now _ a.start l g c.if-left-eq0.false)

pub loop-left-preserved-then-head-eq0 : goal.loop-left-preserved-then-head-eq0
loop-left-preserved-then-head-eq0 c =
    let o = c.loop-left in
    let a = c.args in
    let g = o.invariant in
    let l = W.lv o.what o.objects o.left in
    W.turn-leaf a.text.now a.entries.now a.n a.out.now _ a.start l g c.if-left-eq0.false _ _ c.put_at-head.ensures c.put_at-head.auto.out c.if-head-eq0.true

pub offset_bounds-saved-d-in-loop-left : goal.offset_bounds-saved-d-in-loop-left
offset_bounds-saved-d-in-loop-left c =
    let o = c.loop-left in
    let a = c.args in
    let g = o.invariant in
    let l = W.lv o.what o.objects o.left in
    omega (arith, W.shallow a.text.now a.entries.now a.n a.out.now _ a.start l g c.if-left-eq0.false)

pub bounds-saved-d-in-loop-left : goal.bounds-saved-d-in-loop-left
bounds-saved-d-in-loop-left c =
    let o = c.loop-left in
    let a = c.args in
    let g = o.invariant in
    let l = W.lv o.what o.objects o.left in
    omega (arith, W.shallow a.text.now a.entries.now a.n a.out.now _ a.start l g c.if-left-eq0.false)

pub overflow_add-d : goal.overflow_add-d
overflow_add-d c =
    let o = c.loop-left in
    let a = c.args in
    let g = o.invariant in
    let l = W.lv o.what o.objects o.left in
    omega (arith, W.shallow a.text.now a.entries.now a.n a.out.now _ a.start l g c.if-left-eq0.false)

pub loop-left-smaller : goal.loop-left-smaller
loop-left-smaller c =
    let o = c.loop-left in
    let a = c.args in
    let g = o.invariant in
    let l = W.lv o.what o.objects o.left in
    omega (arith, W.some_left a.text.now a.entries.now a.n a.out.now _ a.start l g c.if-left-eq0.false)

pub loop-left-preserved : goal.loop-left-preserved
loop-left-preserved c =
    let o = c.loop-left in
    let a = c.args in
    let g = o.invariant in
    let l = W.lv o.what o.objects o.left in
    W.turn-head a.text.now a.entries.now a.n a.out.now _ a.start l g c.if-left-eq0.false _ _ c.put_at-head.ensures c.put_at-head.auto.out
