use Rattle.descriptor_find.proofs.Keys as K
use Rattle.descriptor_find.proofs.Children as C
use Rattle.descriptor_find.specs.scaffold.Finding.{rows_in}
use Rattle.descriptor_find.specs.Find.{row_of}
use Rattle.descriptor.specs.Reading.{descriptor}
use native.Mathlib.Omega.{arith}
use lib.ListN.{set}
use mathlib.Core.Path.{ap}
use Rattle.descriptor_find.proofs.answer_all.Goals as goal

pub loop-at-init : goal.loop-at-init
loop-at-init c =
    let a = c.args in
    λ g. K.fill_start a.keys.now a.answers.now (row_of a.file.now (rows_in (descriptor a.file.now))) g

pub overflow_add-at : goal.overflow_add-at
overflow_add-at c =
    let a = c.args in
    let p = c.requires in
    let o = c.loop-at in
    let n = K.fill-next a.keys.now a.answers.now o.answers (row_of a.file.now (rows_in (descriptor a.file.now))) p.1.ks o.at o.i (o.invariant p.1) c.loop-at-test.true _ _ c.number_or_zero-tag.ensures c.body_size-size.ensures.0 in
    omega (arith, n.inside)

pub row_of-row-requires : goal.row_of-row-requires
row_of-row-requires c =
    let a = c.args in
    let p = c.requires in
    let o = c.loop-at in
    let n = K.fill-next a.keys.now a.answers.now o.answers (row_of a.file.now (rows_in (descriptor a.file.now))) p.1.ks o.at o.i (o.invariant p.1) c.loop-at-test.true _ _ c.number_or_zero-tag.ensures c.body_size-size.ensures.0 in
    (p.0, c.body_size-size.ensures.1, c.body_size-size.ensures.0, n.inside)

pub overflow_cast-answers : goal.overflow_cast-answers
overflow_cast-answers c =
    let a = c.args in
    let m = C.room a.file.now a.first.now a.next.now a.rows c.requires.0 in
    let r = c.row_of-row.ensures.1 in
    omega (arith, m.2, r)

pub offset_bounds-answers-i : goal.offset_bounds-answers-i
offset_bounds-answers-i c =
    let a = c.args in
    let p = c.requires in
    let o = c.loop-at in
    let n = K.fill-next a.keys.now a.answers.now o.answers (row_of a.file.now (rows_in (descriptor a.file.now))) p.1.ks o.at o.i (o.invariant p.1) c.loop-at-test.true _ _ c.number_or_zero-tag.ensures c.body_size-size.ensures.0 in
    omega (arith, n.room, (o.invariant p.1).size)

pub bounds-answers-i : goal.bounds-answers-i
bounds-answers-i c =
    let a = c.args in
    let p = c.requires in
    let o = c.loop-at in
    let n = K.fill-next a.keys.now a.answers.now o.answers (row_of a.file.now (rows_in (descriptor a.file.now))) p.1.ks o.at o.i (o.invariant p.1) c.loop-at-test.true _ _ c.number_or_zero-tag.ensures c.body_size-size.ensures.0 in
    n.room

pub overflow_add-at-in-loop-at : goal.overflow_add-at-in-loop-at
overflow_add-at-in-loop-at c =
    let a = c.args in
    let p = c.requires in
    let o = c.loop-at in
    let n = K.fill-next a.keys.now a.answers.now o.answers (row_of a.file.now (rows_in (descriptor a.file.now))) p.1.ks o.at o.i (o.invariant p.1) c.loop-at-test.true _ _ c.number_or_zero-tag.ensures c.body_size-size.ensures.0 in
    omega (arith, n.inside)

pub overflow_add-at-in-loop-at-2 : goal.overflow_add-at-in-loop-at-2
overflow_add-at-in-loop-at-2 c =
    let a = c.args in
    let p = c.requires in
    let o = c.loop-at in
    let n = K.fill-next a.keys.now a.answers.now o.answers (row_of a.file.now (rows_in (descriptor a.file.now))) p.1.ks o.at o.i (o.invariant p.1) c.loop-at-test.true _ _ c.number_or_zero-tag.ensures c.body_size-size.ensures.0 in
    omega (arith, n.inside)

pub overflow_add-i : goal.overflow_add-i
overflow_add-i c =
    let a = c.args in
    let p = c.requires in
    let o = c.loop-at in
    let n = K.fill-next a.keys.now a.answers.now o.answers (row_of a.file.now (rows_in (descriptor a.file.now))) p.1.ks o.at o.i (o.invariant p.1) c.loop-at-test.true _ _ c.number_or_zero-tag.ensures c.body_size-size.ensures.0 in
    omega (arith, n.room, (o.invariant p.1).size)

pub loop-at-smaller : goal.loop-at-smaller
loop-at-smaller c =
    let a = c.args in
    let p = c.requires in
    let o = c.loop-at in
    let l = c.loop-at-test.true in
    omega (arith, l)

pub loop-at-preserved : goal.loop-at-preserved
loop-at-preserved c =
    let a = c.args in
    let o = c.loop-at in
    λ g. (K.fill-next a.keys.now a.answers.now o.answers (row_of a.file.now (rows_in (descriptor a.file.now))) g.ks o.at o.i (o.invariant g) c.loop-at-test.true _ _ c.number_or_zero-tag.ensures c.body_size-size.ensures.0).next _ (ap (set o.answers o.i) c.row_of-row.ensures.0)

pub shape_of-answers : goal.shape_of-answers
shape_of-answers c =
    let a = c.args in
    let p = c.requires in
    let o = c.loop-at in
    (o.invariant p.1).size

pub returns : goal.returns
returns c =
    let a = c.args in
    let p = c.requires in
    let o = c.loop-at in
    K.fill_end a.file.now a.keys.now a.answers.now o.answers (rows_in (descriptor a.file.now)) p.1 o.at o.i (o.invariant p.1) c.loop-at-test.false
