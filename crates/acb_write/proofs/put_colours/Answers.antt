use Rattle.acb_write_judge.proofs.Judging.{record-whole, fit-start, fit_next, fit-rest, sizes-start, sizes-turn, sizes-end}
use Rattle.acb_write.proofs.Puts.{puts-start, puts-turn, puts-end}
use lib.ListN.{length}
use mathlib.Core.Path.{subst, refl, sym, ap, ◌∙◌}
use native.Mathlib.Omega.{arith}
use Prim.Native.Nat.{◌+◌}
use Rattle.acb_writing.specs.Writing.{size_within}
use Rattle.acb.specs.Row.{RecordRow}
use Rattle.acb_write_judge.specs.Parts.{told_record}
use Rattle.acb_write_judge.specs.scaffold.Parts.{given_at, RecordFits}
use Rattle.acb_write.proofs.put_colours.Goals as goal

pub loop-i-init : goal.loop-i-init
loop-i-init c = let a = c.args in
    (omega arith, puts-start a.run.now a.text.now a.n _ a.out.now a.count 0 a.at refl, fit-start a.text.now a.run.now a.n a.count a.at _ c.requires.1, refl, omega (arith, sizes-start a.run.now (size_within a.n) a.count))

pub put_colour-p-requires : goal.put_colour-p-requires
put_colour-p-requires c = let l = c.loop-i in
    let a = c.args in
    let w = record-whole a.run.now a.count l.i c.requires.0 c.loop-i-test.true in
    let g = given_at a.run.now l.i in
    let f = fit_next a.text.now a.run.now a.n a.count l.i l.p (length a.out.now) c.loop-i-test.true l.invariant.2 in
    let r = subst (RecordFits a.text.now a.n g l.p) (sym l.invariant.3) f in
    subst (λ (k : RecordRow). RecordFits a.text.now a.n k l.p (length l.out)) (sym (c.record_at.ensures ∙ w)) r

pub loop-i-preserved : goal.loop-i-preserved
loop-i-preserved c = let l = c.loop-i in
    let a = c.args in
    let tk = c.loop-i-test.true in
    let g = c.record_at in
    let w = g.ensures ∙ record-whole a.run.now a.count l.i c.requires.0 tk in
    let p = c.put_colour-p in
    let e = p.ensures.0 ∙ ap (λ (x : RecordRow). l.p + size_within a.n x) w in (
      omega arith,
      puts-turn a.run.now a.text.now a.n _ l.out a.count l.i l.p l.invariant.1 l.invariant.2.most tk _ _ e (told_record g.result) w p.ensures.1,
      fit-rest a.text.now a.run.now a.n a.count l.i l.p (length a.out.now) tk l.invariant.2 _ e,
      p.auto.out ∙ l.invariant.3,
      omega (arith, e, sizes-turn a.run.now (size_within a.n) a.count l.i tk, l.invariant.4),
    )

pub shape_of-out : goal.shape_of-out
shape_of-out c = c.loop-i.invariant.3

pub returns : goal.returns
returns c = let l = c.loop-i in
    let a = c.args in
    (omega (arith, sizes-end a.run.now (size_within a.n) a.count l.i c.loop-i-test.false, l.invariant.4), puts-end a.run.now a.text.now a.n _ l.out a.count l.i l.p l.invariant.1 c.loop-i-test.false)
