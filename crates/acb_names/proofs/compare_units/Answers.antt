use Rattle.std.proofs.Common.{arith, ◌≡◌, ◌+◌, ◌*◌, ◌∙◌, sym, ap}
use Rattle.algebra.specs.Numbers.{Bytes}
use Rattle.acb_names.specs.scaffold.Units.{left}
use Rattle.acb_names.proofs.Units.{four-over, four-decides}
use Rattle.acb_names.proofs.compare_units.Goals as goal

pub returns-then-u-v : goal.returns-then-u-v
returns-then-u-v c =
    let a = c.args in
    let l = c.loop-k in
    let bs : Bytes a.file.now = λ j. omega (arith, c.type_inv.file j) in
    four-decides a.file.now a.a.first a.a.count a.b.first a.b.count (4 * l.k) bs (omega arith) (omega arith) _ _ (omega arith) (omega arith) _ _ c.word_at-u.ensures c.word_at-v.ensures c.if-u-v.true _ c.cmp.ensures ∙ sym l.invariant

pub loop-k-preserved : goal.loop-k-preserved
loop-k-preserved c =
    let a = c.args in
    let l = c.loop-k in
    let bs : Bytes a.file.now = λ j. omega (arith, c.type_inv.file j) in
    let z : 4 * l.k + 4 ≡ 4 * (l.k + 1) = omega arith in
    l.invariant ∙ four-over a.file.now bs a.a.first a.a.count a.b.first a.b.count (4 * l.k) (omega arith) (omega arith) _ _ (omega arith) (omega arith) (sym c.word_at-u.ensures ∙ (let q : _ ≡ _ = c.if-u-v.false in q) ∙ c.word_at-v.ensures) ∙ ap (left a.file.now a.a.first a.a.count a.b.first a.b.count) z
