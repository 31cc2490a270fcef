use Rattle.ase_write_judge.proofs.Judging.{fit-start, fit_next, fit-rest}
use Rattle.ase_write.proofs.Puts.{puts-start, puts-turn, puts-end}
use Rattle.algebra.specs.Table.{row_at}
use Rattle.algebra.proofs.Table.{whole_in}
use Rattle.ase.specs.Row.{width, taken, empty_record, given_in}
use Rattle.ase_writing.specs.Writing.{size_within}
use Rattle.ase_write_judge.specs.scaffold.Parts.{RecordFits}
use mathlib.Core.Path.{subst, refl, sym, ap, ◌∙◌}
use native.Mathlib.Omega.{arith}
use lib.ListN.{length}
use Rattle.ase_write.proofs.put_blocks.Goals as goal

pub loop-i-init : goal.loop-i-init
loop-i-init c =
    let a = c.args in
    (omega arith, puts-start a.run.now a.text.now _ a.out.now a.n 0 a.at refl, fit-start a.text.now _ a.n a.at _ c.requires.1, refl)

pub put_block-requires : goal.put_block-requires
put_block-requires c =
    let l = c.loop-i in
    let a = c.args in
    let w = whole_in width taken a.run.now empty_record l.i (omega (arith, c.requires.0, c.loop-i-test.true)) in
    let g = taken (row_at width a.run.now l.i) in
    let f = fit_next a.text.now (λ i. taken (row_at width a.run.now i)) a.n l.i l.p (length a.out.now) c.loop-i-test.true l.invariant.2 in
    let r = subst (RecordFits a.text.now g l.p) (sym l.invariant.3) f in
    (subst (λ k. RecordFits a.text.now k l.p (length l.out)) (sym (c.record_at-given.ensures ∙ w)) r, c.size_in-size.ensures.0)

pub overflow_add-p : goal.overflow_add-p
overflow_add-p c =
    let l = c.loop-i in
    let a = c.args in
    let w = whole_in width taken a.run.now empty_record l.i (omega (arith, c.requires.0, c.loop-i-test.true)) in
    let e = c.size_in-size.ensures.0 ∙ ap (λ g. size_within g) (c.record_at-given.ensures ∙ w) in
    omega (arith, fit_next a.text.now (λ i. taken (row_at width a.run.now i)) a.n l.i l.p (length a.out.now) c.loop-i-test.true l.invariant.2, e)

pub loop-i-preserved : goal.loop-i-preserved
loop-i-preserved c =
    let l = c.loop-i in
    let a = c.args in
    let tk = c.loop-i-test.true in
    let f = fit_next a.text.now (λ i. taken (row_at width a.run.now i)) a.n l.i l.p (length a.out.now) tk l.invariant.2 in
    let w = whole_in width taken a.run.now empty_record l.i (omega (arith, c.requires.0, tk)) in
    let e = c.size_in-size.ensures.0 ∙ ap (λ g. size_within g) (c.record_at-given.ensures ∙ w) in (
      omega arith,
      puts-turn a.run.now a.text.now _ l.out a.n l.i l.p l.invariant.1 tk _ _ e f.sound (given_in c.record_at-given.result) (c.record_at-given.ensures ∙ w) c.put_block.ensures,
      fit-rest a.text.now _ a.n l.i l.p (length a.out.now) tk l.invariant.2 _ e,
      c.put_block.auto.out ∙ l.invariant.3,
    )

pub shape_of-out : goal.shape_of-out
shape_of-out c = c.loop-i.invariant.3

pub returns : goal.returns
returns c =
    let l = c.loop-i in
    let a = c.args in
    puts-end a.run.now a.text.now _ l.out a.n l.i l.p l.invariant.1 c.loop-i-test.false
