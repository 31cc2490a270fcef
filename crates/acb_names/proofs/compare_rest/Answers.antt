use Rattle.std.proofs.Common.{arith, ◌∙◌, sym}
use Rattle.acb_names.proofs.Units.{left-same, unit-decides, length-decides}
use Rattle.acb_names.proofs.compare_rest.Goals as goal

pub returns-then-u-v : goal.returns-then-u-v
returns-then-u-v c =
    let a = c.args in
    let l = c.loop-k in
    unit-decides a.file.now a.a.first a.a.count a.b.first a.b.count l.k (omega arith) (omega arith) _ _ c.unit_at-u.ensures c.unit_at-v.ensures c.if-u-v.true _ c.cmp.ensures ∙ sym l.invariant.1

pub loop-k-preserved : goal.loop-k-preserved
loop-k-preserved c =
    let a = c.args in
    let l = c.loop-k in
    (omega arith, l.invariant.1 ∙ left-same a.file.now a.a.first a.a.count a.b.first a.b.count l.k (omega arith) (omega arith) (omega (arith, c.unit_at-u.ensures, c.unit_at-v.ensures)))

pub returns : goal.returns
returns c =
    let a = c.args in
    let l = c.loop-k in
    length-decides a.file.now a.a.first a.a.count a.b.first a.b.count l.k (omega arith) _ c.cmp-2.ensures ∙ sym l.invariant.1
