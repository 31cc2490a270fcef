use Prim.Native.Nat.{◌<◌}
use mathlib.Core.Path.{◌∙◌}
use native.Mathlib.Omega.{arith}
use Rattle.resource_write.proofs.Puts.{put-start, put-end, put-fits, put_next}
use Rattle.resource_write_judge.proofs.Judging.{record-whole}
use Rattle.resource_write.proofs.put_blocks.Goals as goal

pub loop-i-init : goal.loop-i-init
loop-i-init c =
    let a = c.args in
    (omega arith, put-start a.text.now a.run.now a.n a.out.now c.requires.1)

pub put_block-p-requires : goal.put_block-p-requires
put_block-p-requires c =
    let l = c.loop-i in
    let a = c.args in
    let tk : l.i < a.n = omega arith in
    let w = record-whole a.run.now l.i (omega (arith, tk, c.requires.0)) in
    put-fits a.text.now a.run.now a.n l.i l.p _ _ _ l.invariant.1 tk _ (c.record_at.ensures ∙ w)

pub loop-i-preserved : goal.loop-i-preserved
loop-i-preserved c =
    let l = c.loop-i in
    let a = c.args in
    let tk : l.i < a.n = omega arith in
    let w = record-whole a.run.now l.i (omega (arith, tk, c.requires.0)) in
    let b = c.put_block-p in
    (omega (arith, tk), put_next a.text.now a.run.now a.n l.i l.p _ _ _ l.invariant.1 tk _ (c.record_at.ensures ∙ w) _ _ b.auto.out b.ensures.0 b.ensures.1)

pub shape_of-out : goal.shape_of-out
shape_of-out c = c.loop-i.invariant.1.kept

pub returns : goal.returns
returns c =
    let l = c.loop-i in
    let a = c.args in
    put-end a.text.now a.run.now a.n l.i l.p _ _ _ l.invariant.1 (omega arith)
