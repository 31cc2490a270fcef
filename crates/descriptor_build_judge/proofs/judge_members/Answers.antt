use mathlib.Core.Path.{◌≡◌, refl, ap, ◌∙◌}
use Rattle.descriptor_entry_judge.specs.Judging.{told_fault}
use native.Mathlib.Omega.{arith}
use Rattle.descriptor_build_judge.proofs.Turns as W
use Rattle.descriptor_build_judge.proofs.judge_members.Goals as goal

pub loop-left-init : goal.loop-left-init
loop-left-init c =
    let a = c.args in
    W.start a.text.now a.entries.now a.n a.root c.requires _ refl

pub returns-then-d-eq0 : goal.returns-then-d-eq0
returns-then-d-eq0 c =
    let o = c.loop-left in
    let a = c.args in
    let g = o.invariant in
    let l = W.due o.what o.objects o.left in
    W.turn_end a.text.now a.entries.now a.n l g c.if-left-eq0.true c.if-d-eq0.true _ _ c.none_left.ensures (ap told_fault c.and.ensures ∙ W.and-first _ _) _ c.finish.ensures

pub offset_bounds-saved-d : goal.offset_bounds-saved-d
offset_bounds-saved-d c =
    let o = c.loop-left in
    let a = c.args in
    let g = o.invariant in
    let l = W.due o.what o.objects o.left in
    omega (arith, g.deep)

pub bounds-saved-d : goal.bounds-saved-d
bounds-saved-d c =
    let o = c.loop-left in
    let a = c.args in
    let g = o.invariant in
    let l = W.due o.what o.objects o.left in
    omega (arith, g.deep)

pub loop-left-smaller-then-left-eq0 : goal.loop-left-smaller-then-left-eq0
loop-left-smaller-then-left-eq0 c =
    let o = c.loop-left in
    let a = c.args in
    let g = o.invariant in
    let l = W.due o.what o.objects o.left in
    let z : (o.d ≡ 0 → ⊥) = c.if-d-eq0.false in
    omega (arith, z)

pub loop-left-preserved-then-left-eq0 : goal.loop-left-preserved-then-left-eq0
loop-left-preserved-then-left-eq0 c =
    let o = c.loop-left in
    let a = c.args in
    let g = o.invariant in
    let l = W.due o.what o.objects o.left in
    W.turn-close a.text.now a.entries.now a.n l g c.if-left-eq0.true c.if-d-eq0.false

pub returns-then-d-eq32 : goal.returns-then-d-eq32
returns-then-d-eq32 c =
    let o = c.loop-left in
    let a = c.args in
    let g = o.invariant in
    let l = W.due o.what o.objects o.left in
    W.turn-deep a.text.now a.entries.now a.n l g c.if-left-eq0.false c.if-d-eq32.true _ (ap told_fault c.and-then-d-eq32.ensures ∙ W.and-first _ _) _ c.finish-then-d-eq32.ensures

pub returns-then-k-n : goal.returns-then-k-n
returns-then-k-n c =
    let o = c.loop-left in
    let a = c.args in
    let g = o.invariant in
    let l = W.due o.what o.objects o.left in
    W.turn-short a.text.now a.entries.now a.n l g c.if-left-eq0.false c.if-d-eq32.false c.if-k-n.true _ (ap told_fault c.and-then-k-n.ensures ∙ W.and-first _ _) _ c.finish-then-k-n.ensures

pub judge_at-head-requires : goal.judge_at-head-requires
judge_at-head-requires c =
    let o = c.loop-left in
    let a = c.args in
    let g = o.invariant in
    let l = W.due o.what o.objects o.left in
    let z : (o.k ≡ a.n → ⊥) = c.if-k-n.false in
    omega (arith, z, g.low, c.requires.inside)

pub overflow_add-total : goal.overflow_add-total
overflow_add-total c =
    let o = c.loop-left in
    let a = c.args in
    let g = o.invariant in
    let l = W.due o.what o.objects o.left in
    omega (arith, g.within, c.judge_at-head.ensures.small)

pub returns-then-total-gt-LIMIT : goal.returns-then-total-gt-LIMIT
returns-then-total-gt-LIMIT c =
    let o = c.loop-left in
    let a = c.args in
    let g = o.invariant in
    let l = W.due o.what o.objects o.left in
    W.turn-long a.text.now a.entries.now a.n l g c.if-left-eq0.false c.if-d-eq32.false c.if-k-n.false _ c.judge_at-head.ensures c.if-total-gt-LIMIT.true

pub overflow_add-k : goal.overflow_add-k
overflow_add-k c =
    let o = c.loop-left in
    let a = c.args in
    let g = o.invariant in
    let l = W.due o.what o.objects o.left in
    let z : (o.k ≡ a.n → ⊥) = c.if-k-n.false in
    omega (arith, z, g.low, c.requires.inside)

pub loop-left-smaller-then-head-eq0 : goal.loop-left-smaller-then-head-eq0
loop-left-smaller-then-head-eq0 c =
    let o = c.loop-left in
    let a = c.args in
    let g = o.invariant in
    let l = W.due o.what o.objects o.left in
    let z : (o.k ≡ a.n → ⊥) = c.if-k-n.false in
    omega (arith, z, g.low)

pub loop-left-preserved-then-head-eq0 : goal.loop-left-preserved-then-head-eq0
loop-left-preserved-then-head-eq0 c =
    let o = c.loop-left in
    let a = c.args in
    let g = o.invariant in
    let l = W.due o.what o.objects o.left in
    W.turn-leaf a.text.now a.entries.now a.n l g c.if-left-eq0.false c.if-d-eq32.false c.if-k-n.false _ c.judge_at-head.ensures c.if-total-gt-LIMIT.false _ (ap told_fault c.and-sound.ensures ∙ W.and-first _ _) c.if-head-eq0.true

pub offset_bounds-saved-d-in-loop-left : goal.offset_bounds-saved-d-in-loop-left
offset_bounds-saved-d-in-loop-left c =
    let o = c.loop-left in
    let a = c.args in
    let g = o.invariant in
    let l = W.due o.what o.objects o.left in
    let z : (o.d ≡ 32 → ⊥) = c.if-d-eq32.false in
    omega (arith, g.deep, z)

pub bounds-saved-d-in-loop-left : goal.bounds-saved-d-in-loop-left
bounds-saved-d-in-loop-left c =
    let o = c.loop-left in
    let a = c.args in
    let g = o.invariant in
    let l = W.due o.what o.objects o.left in
    let z : (o.d ≡ 32 → ⊥) = c.if-d-eq32.false in
    omega (arith, g.deep, z)

pub overflow_add-d : goal.overflow_add-d
overflow_add-d c =
    let o = c.loop-left in
    let a = c.args in
    let g = o.invariant in
    let l = W.due o.what o.objects o.left in
    let z : (o.d ≡ 32 → ⊥) = c.if-d-eq32.false in
    omega (arith, g.deep, z)

pub loop-left-smaller : goal.loop-left-smaller
loop-left-smaller c =
    let o = c.loop-left in
    let a = c.args in
    let g = o.invariant in
    let l = W.due o.what o.objects o.left in
    let z : (o.k ≡ a.n → ⊥) = c.if-k-n.false in
    omega (arith, z, g.low)

pub loop-left-preserved : goal.loop-left-preserved
loop-left-preserved c =
    let o = c.loop-left in
    let a = c.args in
    let g = o.invariant in
    let l = W.due o.what o.objects o.left in
    W.turn-head a.text.now a.entries.now a.n l g c.if-left-eq0.false c.if-d-eq32.false c.if-k-n.false _ c.judge_at-head.ensures c.if-total-gt-LIMIT.false _ (ap told_fault c.and-sound.ensures ∙ W.and-first _ _)
