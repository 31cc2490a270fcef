use lib.Dec.{eqb}
use native.Mathlib.Omega.{arith}
use Rattle.palette_compare.specs.Answer.{told_kind}
use Rattle.palette_compare.proofs.Both.{marked-one, both-start, both_end, few-positions, both-turn}
use Rattle.palette_compare.proofs.fill_both.Goals as goal

pub loop-i-init : goal.loop-i-init
loop-i-init c =
    let a = c.args in
    both-start a.one a.other a.first.now a.second.now a.n a.table.now _ _ c.view_of-seen.ensures c.view_of-beside.ensures c.first_at-p.ensures c.first_at-q.ensures c.requires.0 c.requires.1 c.requires.2

pub put_row-requires : goal.put_row-requires
put_row-requires c =
    let a = c.args in
    (omega (arith, c.loop-i.invariant.room, c.loop-i.invariant.stored.kept), omega (arith, few-positions _ _ a.first.now a.second.now (λ k. omega (arith, c.type_inv.first k)) (λ k. omega (arith, c.type_inv.second k)) a.n a.table.now _ _ _ _ c.loop-i.i c.loop-i.invariant c.loop-i-test.true))

pub overflow_add-differences : goal.overflow_add-differences
overflow_add-differences c =
    omega (arith, c.loop-i.invariant.few, c.counted-differences.ensures, marked-one (eqb (told_kind c.kind_at-kind.result) 0))

pub loop-i-preserved : goal.loop-i-preserved
loop-i-preserved c =
    let a = c.args in
    both-turn _ _ a.first.now a.second.now (λ k. omega (arith, c.type_inv.first k)) (λ k. omega (arith, c.type_inv.second k)) a.n a.table.now c.loop-i.table c.loop-i.p c.loop-i.q c.loop-i.differences c.loop-i.i c.loop-i.invariant c.loop-i-test.true
    c.step_at-x.result c.step_at-y.result (told_kind c.kind_at-kind.result) c.counted-differences.result _ c.step_at-x.ensures c.step_at-y.ensures c.kind_at-kind.ensures c.put_row.ensures c.counted-differences.ensures

pub shape_of-table : goal.shape_of-table
shape_of-table c = c.loop-i.invariant.stored.kept

pub returns : goal.returns
returns c =
    let a = c.args in
    both_end a.one a.other a.first.now a.second.now a.n a.table.now _ _ c.loop-i.table c.loop-i.p c.loop-i.q c.loop-i.differences c.loop-i.i c.view_of-seen.ensures c.view_of-beside.ensures c.loop-i-test.false c.loop-i.invariant
