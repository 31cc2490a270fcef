use mathlib.Core.Path.{◌≡◌, refl}
use native.Mathlib.Omega.{arith}
use Rattle.descriptor_columns.specs.scaffold.Filling.{rest}
use Rattle.descriptor_columns.proofs.Valued as W
use Rattle.descriptor_columns.proofs.fill_values.Goals as goal

pub loop-left-init : goal.loop-left-init
loop-left-init c =
    let a = c.args in
    W.start a.file.now a.due a.arity a.count a.start a.rows a.values.now _ refl c.requires.0

pub shape_of-values-then-d-eq0 : goal.shape_of-values-then-d-eq0
shape_of-values-then-d-eq0 c =
    let a = c.args in
    let p = c.requires in
    let o = c.loop-left in
    let g = o.invariant in
    let l = W.due o.what o.objects o.left in
    let f = W.facts a.file.now a.rows (rest a.file.now a.due a.arity a.count a.start) a.values.now l g in
    g.size

pub returns-then-d-eq0 : goal.returns-then-d-eq0
returns-then-d-eq0 c =
    let a = c.args in
    let p = c.requires in
    let o = c.loop-left in
    let g = o.invariant in
    let l = W.due o.what o.objects o.left in
    let f = W.facts a.file.now a.rows (rest a.file.now a.due a.arity a.count a.start) a.values.now l g in
    W.turn_end a.file.now a.rows (rest a.file.now a.due a.arity a.count a.start) a.values.now l g c.if-left-eq0.true c.if-d-eq0.true

pub offset_bounds-saved-d : goal.offset_bounds-saved-d
offset_bounds-saved-d c =
    let a = c.args in
    let p = c.requires in
    let o = c.loop-left in
    let g = o.invariant in
    let l = W.due o.what o.objects o.left in
    let f = W.facts a.file.now a.rows (rest a.file.now a.due a.arity a.count a.start) a.values.now l g in
    omega (arith, f.3)

pub bounds-saved-d : goal.bounds-saved-d
bounds-saved-d c =
    let a = c.args in
    let p = c.requires in
    let o = c.loop-left in
    let g = o.invariant in
    let l = W.due o.what o.objects o.left in
    let f = W.facts a.file.now a.rows (rest a.file.now a.due a.arity a.count a.start) a.values.now l g in
    omega (arith, f.3)

pub loop-left-smaller-then-left-eq0 : goal.loop-left-smaller-then-left-eq0
loop-left-smaller-then-left-eq0 c =
    let a = c.args in
    let p = c.requires in
    let o = c.loop-left in
    let g = o.invariant in
    let l = W.due o.what o.objects o.left in
    let f = W.facts a.file.now a.rows (rest a.file.now a.due a.arity a.count a.start) a.values.now l g in
    let z : (o.d ≡ 0 → ⊥) = c.if-d-eq0.false in
    omega (arith, z)

pub loop-left-preserved-then-left-eq0 : goal.loop-left-preserved-then-left-eq0
loop-left-preserved-then-left-eq0 c =
    let a = c.args in
    let p = c.requires in
    let o = c.loop-left in
    let g = o.invariant in
    let l = W.due o.what o.objects o.left in
    let f = W.facts a.file.now a.rows (rest a.file.now a.due a.arity a.count a.start) a.values.now l g in
    W.turn-close a.file.now a.rows (rest a.file.now a.due a.arity a.count a.start) a.values.now l g c.if-left-eq0.true c.if-d-eq0.false

pub overflow_cast-values : goal.overflow_cast-values
overflow_cast-values c =
    let a = c.args in
    let p = c.requires in
    let o = c.loop-left in
    let g = o.invariant in
    let l = W.due o.what o.objects o.left in
    let f = W.facts a.file.now a.rows (rest a.file.now a.due a.arity a.count a.start) a.values.now l g in
    let w = W.seen a.file.now a.rows (rest a.file.now a.due a.arity a.count a.start) a.values.now l g _ c.if-left-eq0.false c.head_to_value-head.ensures in
    omega (arith, w.2, w.3, g.walking.size)

pub offset_bounds-values-k : goal.offset_bounds-values-k
offset_bounds-values-k c =
    let a = c.args in
    let p = c.requires in
    let o = c.loop-left in
    let g = o.invariant in
    let l = W.due o.what o.objects o.left in
    let f = W.facts a.file.now a.rows (rest a.file.now a.due a.arity a.count a.start) a.values.now l g in
    let w = W.seen a.file.now a.rows (rest a.file.now a.due a.arity a.count a.start) a.values.now l g _ c.if-left-eq0.false c.head_to_value-head.ensures in
    omega (arith, w.0, f.2)

pub bounds-values-k : goal.bounds-values-k
bounds-values-k c =
    let a = c.args in
    let p = c.requires in
    let o = c.loop-left in
    let g = o.invariant in
    let l = W.due o.what o.objects o.left in
    let f = W.facts a.file.now a.rows (rest a.file.now a.due a.arity a.count a.start) a.values.now l g in
    let w = W.seen a.file.now a.rows (rest a.file.now a.due a.arity a.count a.start) a.values.now l g _ c.if-left-eq0.false c.head_to_value-head.ensures in
    omega (arith, w.0, p.1, g.size)

pub overflow_add-k : goal.overflow_add-k
overflow_add-k c =
    let a = c.args in
    let p = c.requires in
    let o = c.loop-left in
    let g = o.invariant in
    let l = W.due o.what o.objects o.left in
    let f = W.facts a.file.now a.rows (rest a.file.now a.due a.arity a.count a.start) a.values.now l g in
    omega (arith, f.0, f.2)

pub loop-left-smaller-then-head-eq0 : goal.loop-left-smaller-then-head-eq0
loop-left-smaller-then-head-eq0 c =
    let a = c.args in
    let p = c.requires in
    let o = c.loop-left in
    let g = o.invariant in
    let l = W.due o.what o.objects o.left in
    let f = W.facts a.file.now a.rows (rest a.file.now a.due a.arity a.count a.start) a.values.now l g in
    let w = W.seen a.file.now a.rows (rest a.file.now a.due a.arity a.count a.start) a.values.now l g _ c.if-left-eq0.false c.head_to_value-head.ensures in
    omega (arith, w.1, w.2, f.4)

pub loop-left-preserved-then-head-eq0 : goal.loop-left-preserved-then-head-eq0
loop-left-preserved-then-head-eq0 c =
    let a = c.args in
    let p = c.requires in
    let o = c.loop-left in
    let g = o.invariant in
    let l = W.due o.what o.objects o.left in
    let f = W.facts a.file.now a.rows (rest a.file.now a.due a.arity a.count a.start) a.values.now l g in
    W.turn-leaf a.file.now a.rows (rest a.file.now a.due a.arity a.count a.start) a.values.now l g _ c.if-left-eq0.false c.head_to_value-head.ensures c.if-head-eq0.true refl

pub offset_bounds-saved-d-in-loop-left : goal.offset_bounds-saved-d-in-loop-left
offset_bounds-saved-d-in-loop-left c =
    let a = c.args in
    let p = c.requires in
    let o = c.loop-left in
    let g = o.invariant in
    let l = W.due o.what o.objects o.left in
    let f = W.facts a.file.now a.rows (rest a.file.now a.due a.arity a.count a.start) a.values.now l g in
    omega (arith, f.3)

pub bounds-saved-d-in-loop-left : goal.bounds-saved-d-in-loop-left
bounds-saved-d-in-loop-left c =
    let a = c.args in
    let p = c.requires in
    let o = c.loop-left in
    let g = o.invariant in
    let l = W.due o.what o.objects o.left in
    let f = W.facts a.file.now a.rows (rest a.file.now a.due a.arity a.count a.start) a.values.now l g in
    omega (arith, f.3)

pub overflow_add-d : goal.overflow_add-d
overflow_add-d c =
    let a = c.args in
    let p = c.requires in
    let o = c.loop-left in
    let g = o.invariant in
    let l = W.due o.what o.objects o.left in
    let f = W.facts a.file.now a.rows (rest a.file.now a.due a.arity a.count a.start) a.values.now l g in
    omega (arith, f.3)

pub overflow_add-k-in-loop-left : goal.overflow_add-k-in-loop-left
overflow_add-k-in-loop-left c =
    let a = c.args in
    let p = c.requires in
    let o = c.loop-left in
    let g = o.invariant in
    let l = W.due o.what o.objects o.left in
    let f = W.facts a.file.now a.rows (rest a.file.now a.due a.arity a.count a.start) a.values.now l g in
    omega (arith, f.0, f.2)

pub loop-left-smaller : goal.loop-left-smaller
loop-left-smaller c =
    let a = c.args in
    let p = c.requires in
    let o = c.loop-left in
    let g = o.invariant in
    let l = W.due o.what o.objects o.left in
    let f = W.facts a.file.now a.rows (rest a.file.now a.due a.arity a.count a.start) a.values.now l g in
    let w = W.seen a.file.now a.rows (rest a.file.now a.due a.arity a.count a.start) a.values.now l g _ c.if-left-eq0.false c.head_to_value-head.ensures in
    omega (arith, w.1, w.2, f.4)

pub loop-left-preserved : goal.loop-left-preserved
loop-left-preserved c =
    let a = c.args in
    let p = c.requires in
    let o = c.loop-left in
    let g = o.invariant in
    let l = W.due o.what o.objects o.left in
    let f = W.facts a.file.now a.rows (rest a.file.now a.due a.arity a.count a.start) a.values.now l g in
    W.turn-head a.file.now a.rows (rest a.file.now a.due a.arity a.count a.start) a.values.now l g _ c.if-left-eq0.false c.head_to_value-head.ensures refl
