use Prim.Native.Nat.{◌*◌}
use mathlib.Core.Path.{◌≡◌, refl, ap, ◌∙◌}
use lib.Seq.{sets}
use native.Mathlib.Omega.{arith}
use Rattle.descriptor_entries.specs.Answered.{numbers}
use Rattle.descriptor_entries_read.specs.scaffold.Filling.{rest}
use Rattle.descriptor_entries_read.proofs.Turns as W
use Rattle.descriptor_entries_read.proofs.fill.Goals as goal

pub loop-left-init : goal.loop-left-init
loop-left-init c =
    let a = c.args in
    W.start a.file.now a.due a.arity a.count a.start a.rows a.run.now _ refl c.requires.0

pub shape_of-run-then-d-eq0 : goal.shape_of-run-then-d-eq0
shape_of-run-then-d-eq0 c =
    let a = c.args in
    let p = c.requires in
    let o = c.loop-left in
    let g = o.invariant in
    let l = W.due o.what o.objects o.left in
    let all = (sets a.run.now 16 (numbers (rest a.file.now a.due a.arity a.count a.start))) in
    let f = W.facts a.file.now a.rows all a.run.now l g in
    g.size

pub returns-then-d-eq0 : goal.returns-then-d-eq0
returns-then-d-eq0 c =
    let a = c.args in
    let p = c.requires in
    let o = c.loop-left in
    let g = o.invariant in
    let l = W.due o.what o.objects o.left in
    let all = (sets a.run.now 16 (numbers (rest a.file.now a.due a.arity a.count a.start))) in
    let f = W.facts a.file.now a.rows all a.run.now l g in
    W.turn_end a.file.now a.rows all a.run.now l g c.if-left-eq0.true c.if-d-eq0.true

pub offset_bounds-saved-d : goal.offset_bounds-saved-d
offset_bounds-saved-d c =
    let a = c.args in
    let p = c.requires in
    let o = c.loop-left in
    let g = o.invariant in
    let l = W.due o.what o.objects o.left in
    let all = (sets a.run.now 16 (numbers (rest a.file.now a.due a.arity a.count a.start))) in
    let f = W.facts a.file.now a.rows all a.run.now l g in
    omega (arith, f.3)

pub bounds-saved-d : goal.bounds-saved-d
bounds-saved-d c =
    let a = c.args in
    let p = c.requires in
    let o = c.loop-left in
    let g = o.invariant in
    let l = W.due o.what o.objects o.left in
    let all = (sets a.run.now 16 (numbers (rest a.file.now a.due a.arity a.count a.start))) in
    let f = W.facts a.file.now a.rows all a.run.now l g in
    omega (arith, f.3)

pub loop-left-smaller-then-left-eq0 : goal.loop-left-smaller-then-left-eq0
loop-left-smaller-then-left-eq0 c =
    let a = c.args in
    let p = c.requires in
    let o = c.loop-left in
    let g = o.invariant in
    let l = W.due o.what o.objects o.left in
    let all = (sets a.run.now 16 (numbers (rest a.file.now a.due a.arity a.count a.start))) in
    let f = W.facts a.file.now a.rows all a.run.now l g in
    let z : (o.d ≡ 0 → ⊥) = c.if-d-eq0.false in
    omega (arith, z)

pub loop-left-preserved-then-left-eq0 : goal.loop-left-preserved-then-left-eq0
loop-left-preserved-then-left-eq0 c =
    let a = c.args in
    let p = c.requires in
    let o = c.loop-left in
    let g = o.invariant in
    let l = W.due o.what o.objects o.left in
    let all = (sets a.run.now 16 (numbers (rest a.file.now a.due a.arity a.count a.start))) in
    let f = W.facts a.file.now a.rows all a.run.now l g in
    W.turn-close a.file.now a.rows all a.run.now l g c.if-left-eq0.true c.if-d-eq0.false

pub entry_at-entry-requires : goal.entry_at-entry-requires
entry_at-entry-requires c =
    let a = c.args in
    let p = c.requires in
    let o = c.loop-left in
    let g = o.invariant in
    let l = W.due o.what o.objects o.left in
    let all = (sets a.run.now 16 (numbers (rest a.file.now a.due a.arity a.count a.start))) in
    let f = W.facts a.file.now a.rows all a.run.now l g in
    W.inside a.file.now a.rows all a.run.now l g _ c.if-left-eq0.false c.head_at-head.ensures

pub overflow_mul-k : goal.overflow_mul-k
overflow_mul-k c =
    let a = c.args in
    let p = c.requires in
    let o = c.loop-left in
    let g = o.invariant in
    let l = W.due o.what o.objects o.left in
    let all = (sets a.run.now 16 (numbers (rest a.file.now a.due a.arity a.count a.start))) in
    let f = W.facts a.file.now a.rows all a.run.now l g in
    let w = W.seen a.file.now a.rows all a.run.now l g _ c.if-left-eq0.false c.head_at-head.ensures in
    omega (arith, w.0, f.2)

pub put_row-requires : goal.put_row-requires
put_row-requires c =
    let a = c.args in
    let p = c.requires in
    let o = c.loop-left in
    let g = o.invariant in
    let l = W.due o.what o.objects o.left in
    let all = (sets a.run.now 16 (numbers (rest a.file.now a.due a.arity a.count a.start))) in
    let f = W.facts a.file.now a.rows all a.run.now l g in
    let w = W.seen a.file.now a.rows all a.run.now l g _ c.if-left-eq0.false c.head_at-head.ensures in
    omega (arith, w.0, p.1, g.size)

pub overflow_add-k : goal.overflow_add-k
overflow_add-k c =
    let a = c.args in
    let p = c.requires in
    let o = c.loop-left in
    let g = o.invariant in
    let l = W.due o.what o.objects o.left in
    let all = (sets a.run.now 16 (numbers (rest a.file.now a.due a.arity a.count a.start))) in
    let f = W.facts a.file.now a.rows all a.run.now l g in
    omega (arith, f.0, f.2)

pub loop-left-smaller-then-head-eq0 : goal.loop-left-smaller-then-head-eq0
loop-left-smaller-then-head-eq0 c =
    let a = c.args in
    let p = c.requires in
    let o = c.loop-left in
    let g = o.invariant in
    let l = W.due o.what o.objects o.left in
    let all = (sets a.run.now 16 (numbers (rest a.file.now a.due a.arity a.count a.start))) in
    let f = W.facts a.file.now a.rows all a.run.now l g in
    let w = W.seen a.file.now a.rows all a.run.now l g _ c.if-left-eq0.false c.head_at-head.ensures in
    omega (arith, w.1, w.2, f.4)

pub loop-left-preserved-then-head-eq0 : goal.loop-left-preserved-then-head-eq0
loop-left-preserved-then-head-eq0 c =
    let a = c.args in
    let p = c.requires in
    let o = c.loop-left in
    let g = o.invariant in
    let l = W.due o.what o.objects o.left in
    let all = (sets a.run.now 16 (numbers (rest a.file.now a.due a.arity a.count a.start))) in
    let f = W.facts a.file.now a.rows all a.run.now l g in
    let x = c.put_row.ensures ∙ ap (sets o.run (16 * o.k)) c.entry_at-entry.ensures in
    W.turn-leaf a.file.now a.rows all a.run.now l g _ c.if-left-eq0.false c.head_at-head.ensures c.if-head-eq0.true x

pub offset_bounds-saved-d-in-loop-left : goal.offset_bounds-saved-d-in-loop-left
offset_bounds-saved-d-in-loop-left c =
    let a = c.args in
    let p = c.requires in
    let o = c.loop-left in
    let g = o.invariant in
    let l = W.due o.what o.objects o.left in
    let all = (sets a.run.now 16 (numbers (rest a.file.now a.due a.arity a.count a.start))) in
    let f = W.facts a.file.now a.rows all a.run.now l g in
    omega (arith, f.3)

pub bounds-saved-d-in-loop-left : goal.bounds-saved-d-in-loop-left
bounds-saved-d-in-loop-left c =
    let a = c.args in
    let p = c.requires in
    let o = c.loop-left in
    let g = o.invariant in
    let l = W.due o.what o.objects o.left in
    let all = (sets a.run.now 16 (numbers (rest a.file.now a.due a.arity a.count a.start))) in
    let f = W.facts a.file.now a.rows all a.run.now l g in
    omega (arith, f.3)

pub overflow_add-d : goal.overflow_add-d
overflow_add-d c =
    let a = c.args in
    let p = c.requires in
    let o = c.loop-left in
    let g = o.invariant in
    let l = W.due o.what o.objects o.left in
    let all = (sets a.run.now 16 (numbers (rest a.file.now a.due a.arity a.count a.start))) in
    let f = W.facts a.file.now a.rows all a.run.now l g in
    omega (arith, f.3)

pub overflow_add-k-in-loop-left : goal.overflow_add-k-in-loop-left
overflow_add-k-in-loop-left c =
    let a = c.args in
    let p = c.requires in
    let o = c.loop-left in
    let g = o.invariant in
    let l = W.due o.what o.objects o.left in
    let all = (sets a.run.now 16 (numbers (rest a.file.now a.due a.arity a.count a.start))) in
    let f = W.facts a.file.now a.rows all a.run.now l g in
    omega (arith, f.0, f.2)

pub loop-left-smaller : goal.loop-left-smaller
loop-left-smaller c =
    let a = c.args in
    let p = c.requires in
    let o = c.loop-left in
    let g = o.invariant in
    let l = W.due o.what o.objects o.left in
    let all = (sets a.run.now 16 (numbers (rest a.file.now a.due a.arity a.count a.start))) in
    let f = W.facts a.file.now a.rows all a.run.now l g in
    let w = W.seen a.file.now a.rows all a.run.now l g _ c.if-left-eq0.false c.head_at-head.ensures in
    omega (arith, w.1, w.2, f.4)

pub loop-left-preserved : goal.loop-left-preserved
loop-left-preserved c =
    let a = c.args in
    let p = c.requires in
    let o = c.loop-left in
    let g = o.invariant in
    let l = W.due o.what o.objects o.left in
    let all = (sets a.run.now 16 (numbers (rest a.file.now a.due a.arity a.count a.start))) in
    let f = W.facts a.file.now a.rows all a.run.now l g in
    let x = c.put_row.ensures ∙ ap (sets o.run (16 * o.k)) c.entry_at-entry.ensures in
    W.turn-head a.file.now a.rows all a.run.now l g _ c.if-left-eq0.false c.head_at-head.ensures x
