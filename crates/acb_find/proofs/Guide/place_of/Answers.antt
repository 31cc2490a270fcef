use Rattle.std.proofs.Common.{◌≡◌, ◌∙◌, sym, ap, arith}
use Rattle.acb_order.specs.scaffold.Places.{record_place}
use Rattle.acb_order.proofs.Files.{passed, known}
use Rattle.acb_find.proofs.Guide.place_of.Goals as goal

pub loop-k-preserved : goal.loop-k-preserved
loop-k-preserved c =
    let b = c.args.self.now.book in
    let s = b.file.now in
    let r = c.requires.judged in
    let l = c.loop-k in
    (omega (arith, c.loop-k-test.true), passed s r.bytes b.count b.first b.components r.opened l._k (omega (arith, c.loop-k-test.true, c.if-self-n.false)) l.invariant.1 c.pass-next.ensures.1)

pub overflow_cast-result : goal.overflow_cast-result
overflow_cast-result c =
    let b = c.args.self.now.book in
    let s = b.file.now in
    let r = c.requires.judged in
    let l = c.loop-k in
    let e : l._k ≡ c.args.i = omega (arith, c.loop-k-test.false, l.invariant.0) in
    let q = l.invariant.1 ∙ ap (record_place b.components s b.first) e in
    omega (arith, q, (known s r.bytes b.count b.first b.components r.opened c.args.i (omega (arith, c.if-self-n.false))).place)
