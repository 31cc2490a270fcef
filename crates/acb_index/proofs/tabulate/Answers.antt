use Rattle.std.proofs.Common.{ℕ, ◌≡◌, ◌∙◌, ◌/◌, sym, ap, subst, arith}
use lib.ListN.{length-set}
use Rattle.acb_order.proofs.Files.{passed, place-first, known, count_most}
use Rattle.acb_index.specs.scaffold.Drawn.{Tabled}
use Rattle.acb_index.proofs.Building.{tabled-turn}
use Rattle.acb_index.proofs.tabulate.Goals as goal

pub loop-i-init : goal.loop-i-init
loop-i-init c = (sym (place-first _ _ _), λ j h. absurd (omega arith), c.requires.1)

pub overflow_cast-table : goal.overflow_cast-table
overflow_cast-table c =
    let b = c.args.book.now in
    let r = c.requires.0 in
    omega (arith, c.loop-i-test.true, count_most b.file.now r.bytes b.count b.first b.components r.opened)

pub bounds-table-at : goal.bounds-table-at
bounds-table-at c =
    let b = c.args.book.now in
    let r = c.requires.0 in
    let l = c.loop-i in
    let k = known b.file.now r.bytes b.count b.first b.components r.opened l.i c.loop-i-test.true in
    omega (arith, l.invariant.0, k.place)

pub loop-i-preserved : goal.loop-i-preserved
loop-i-preserved c =
    let b = c.args.book.now in
    let s = b.file.now in
    let r = c.requires.0 in
    let l = c.loop-i in
    let i = l.invariant in (
      passed s r.bytes b.count b.first b.components r.opened l.i c.loop-i-test.true i.0 c.pass-next.ensures.1,
      tabled-turn s r.bytes b.count b.first b.components r.opened l.i l.at l.table c.loop-i-test.true i.2 i.0 i.1,
      length-set l.table (l.at / 2048) l.i ∙ i.2,
    )

pub returns : goal.returns
returns c =
    let b = c.args.book.now in
    let l = c.loop-i in
    let e : l.i ≡ b.count = omega (arith, c.loop-i-test.false, l.auto.i-end) in
    subst (λ (x : ℕ). Tabled b.file.now b.components b.first x l.table) e l.invariant.1
