use mathlib.Core.Path.{◌≡◌, refl}
use native.Mathlib.Omega.{arith}
use Rattle.descriptor_heads.specs.Heads.{file_heads}
use Rattle.descriptor_read.specs.scaffold.Extents.{extent_in}
use Rattle.descriptor_read.proofs.Extents as E
use Rattle.descriptor_read.proofs.extent_in.Goals as goal

pub loop-left-init : goal.loop-left-init
loop-left-init c =
    let a = c.args in
    let s = a.file.now in
    let u = c.root_head-head.ensures in
    E.start s c.requires a.row _ refl _ u c.met_by-met.ensures

pub overflow_sub-result : goal.overflow_sub-result
overflow_sub-result c =
    let a = c.args in
    let o = c.loop-left in
    let s = a.file.now in
    let x = extent_in a.row (file_heads s) in
    let l = E.due o.what o.objects o.left in
    let f = E.facts s a.row x l o.invariant in
    (E.turn-found s a.row x l o.invariant c.if-left-eq0.true c.if-d-met.true).0

pub returns-then-d-met : goal.returns-then-d-met
returns-then-d-met c =
    let a = c.args in
    let o = c.loop-left in
    let s = a.file.now in
    let x = extent_in a.row (file_heads s) in
    let l = E.due o.what o.objects o.left in
    let f = E.facts s a.row x l o.invariant in
    (E.turn-found s a.row x l o.invariant c.if-left-eq0.true c.if-d-met.true).1

pub returns-then-d-eq0 : goal.returns-then-d-eq0
returns-then-d-eq0 c =
    let a = c.args in
    let o = c.loop-left in
    let s = a.file.now in
    let x = extent_in a.row (file_heads s) in
    let l = E.due o.what o.objects o.left in
    let f = E.facts s a.row x l o.invariant in
    E.turn-none s a.row x l o.invariant c.if-left-eq0.true c.if-d-met.false c.if-d-eq0.true

pub offset_bounds-saved-d : goal.offset_bounds-saved-d
offset_bounds-saved-d c =
    let a = c.args in
    let o = c.loop-left in
    let s = a.file.now in
    let x = extent_in a.row (file_heads s) in
    let l = E.due o.what o.objects o.left in
    let f = E.facts s a.row x l o.invariant in
    omega (arith, f.3)

pub bounds-saved-d : goal.bounds-saved-d
bounds-saved-d c =
    let a = c.args in
    let o = c.loop-left in
    let s = a.file.now in
    let x = extent_in a.row (file_heads s) in
    let l = E.due o.what o.objects o.left in
    let f = E.facts s a.row x l o.invariant in
    omega (arith, f.3)

pub loop-left-smaller-then-left-eq0 : goal.loop-left-smaller-then-left-eq0
loop-left-smaller-then-left-eq0 c =
    let a = c.args in
    let o = c.loop-left in
    let s = a.file.now in
    let x = extent_in a.row (file_heads s) in
    let l = E.due o.what o.objects o.left in
    let f = E.facts s a.row x l o.invariant in
    let z : (o.d ≡ 0 → ⊥) = c.if-d-eq0.false in
    omega (arith, z)

pub loop-left-preserved-then-left-eq0 : goal.loop-left-preserved-then-left-eq0
loop-left-preserved-then-left-eq0 c =
    let a = c.args in
    let o = c.loop-left in
    let s = a.file.now in
    let x = extent_in a.row (file_heads s) in
    let l = E.due o.what o.objects o.left in
    let f = E.facts s a.row x l o.invariant in
    E.turn-close s a.row x l o.invariant c.if-left-eq0.true c.if-d-met.false c.if-d-eq0.false

pub overflow_sub-result-then-k-row : goal.overflow_sub-result-then-k-row
overflow_sub-result-then-k-row c =
    let a = c.args in
    let o = c.loop-left in
    let s = a.file.now in
    let x = extent_in a.row (file_heads s) in
    let l = E.due o.what o.objects o.left in
    let f = E.facts s a.row x l o.invariant in
    (E.leaf-found s a.row x l o.invariant _ c.if-left-eq0.false c.head_at-head.ensures c.if-head-eq0.true c.if-k-row.true).0

pub returns-then-k-row : goal.returns-then-k-row
returns-then-k-row c =
    let a = c.args in
    let o = c.loop-left in
    let s = a.file.now in
    let x = extent_in a.row (file_heads s) in
    let l = E.due o.what o.objects o.left in
    let f = E.facts s a.row x l o.invariant in
    (E.leaf-found s a.row x l o.invariant _ c.if-left-eq0.false c.head_at-head.ensures c.if-head-eq0.true c.if-k-row.true).1

pub overflow_add-k : goal.overflow_add-k
overflow_add-k c =
    let a = c.args in
    let o = c.loop-left in
    let s = a.file.now in
    let x = extent_in a.row (file_heads s) in
    let l = E.due o.what o.objects o.left in
    let f = E.facts s a.row x l o.invariant in
    omega (arith, f.0, f.2)

pub loop-left-smaller-then-head-eq0 : goal.loop-left-smaller-then-head-eq0
loop-left-smaller-then-head-eq0 c =
    let a = c.args in
    let o = c.loop-left in
    let s = a.file.now in
    let x = extent_in a.row (file_heads s) in
    let l = E.due o.what o.objects o.left in
    let f = E.facts s a.row x l o.invariant in
    let w = E.seen s a.row x l o.invariant _ c.if-left-eq0.false c.head_at-head.ensures in
    omega (arith, w.1, w.2, f.4)

pub loop-left-preserved-then-head-eq0 : goal.loop-left-preserved-then-head-eq0
loop-left-preserved-then-head-eq0 c =
    let a = c.args in
    let o = c.loop-left in
    let s = a.file.now in
    let x = extent_in a.row (file_heads s) in
    let l = E.due o.what o.objects o.left in
    let f = E.facts s a.row x l o.invariant in
    E.turn-leaf s a.row x l o.invariant _ c.if-left-eq0.false c.head_at-head.ensures c.if-head-eq0.true c.if-k-row.false

pub offset_bounds-saved-d-in-loop-left : goal.offset_bounds-saved-d-in-loop-left
offset_bounds-saved-d-in-loop-left c =
    let a = c.args in
    let o = c.loop-left in
    let s = a.file.now in
    let x = extent_in a.row (file_heads s) in
    let l = E.due o.what o.objects o.left in
    let f = E.facts s a.row x l o.invariant in
    omega (arith, f.3)

pub bounds-saved-d-in-loop-left : goal.bounds-saved-d-in-loop-left
bounds-saved-d-in-loop-left c =
    let a = c.args in
    let o = c.loop-left in
    let s = a.file.now in
    let x = extent_in a.row (file_heads s) in
    let l = E.due o.what o.objects o.left in
    let f = E.facts s a.row x l o.invariant in
    omega (arith, f.3)

pub overflow_add-d : goal.overflow_add-d
overflow_add-d c =
    let a = c.args in
    let o = c.loop-left in
    let s = a.file.now in
    let x = extent_in a.row (file_heads s) in
    let l = E.due o.what o.objects o.left in
    let f = E.facts s a.row x l o.invariant in
    omega (arith, f.3)

pub overflow_add-k-in-loop-left : goal.overflow_add-k-in-loop-left
overflow_add-k-in-loop-left c =
    let a = c.args in
    let o = c.loop-left in
    let s = a.file.now in
    let x = extent_in a.row (file_heads s) in
    let l = E.due o.what o.objects o.left in
    let f = E.facts s a.row x l o.invariant in
    omega (arith, f.0, f.2)

pub loop-left-smaller : goal.loop-left-smaller
loop-left-smaller c =
    let a = c.args in
    let o = c.loop-left in
    let s = a.file.now in
    let x = extent_in a.row (file_heads s) in
    let l = E.due o.what o.objects o.left in
    let f = E.facts s a.row x l o.invariant in
    let w = E.seen s a.row x l o.invariant _ c.if-left-eq0.false c.head_at-head.ensures in
    omega (arith, w.1, w.2, f.4)

pub loop-left-preserved : goal.loop-left-preserved
loop-left-preserved c =
    let a = c.args in
    let o = c.loop-left in
    let s = a.file.now in
    let x = extent_in a.row (file_heads s) in
    let l = E.due o.what o.objects o.left in
    let f = E.facts s a.row x l o.invariant in
    E.turn-head s a.row x l o.invariant _ c.if-left-eq0.false c.head_at-head.ensures c.met_by-met-in-loop-left.ensures
