use Rattle.std.proofs.Common.{ℕ, ◌≡◌, ◌∙◌, sym, ap, arith, length}
use lib.ListN.{drop}
use Rattle.acb_order.specs.Index.{shown_from}
use Rattle.acb_order.specs.Places.{units_at}
use Rattle.acb_order.specs.scaffold.Places.{record_place, names_in}
use Rattle.acb_order.proofs.Files.{passed, place-first, shown-turn, shown-end}
use Rattle.acb_index.proofs.Building.{picked, unpicked}
use Rattle.acb_index.proofs.shown_in.Goals.{then-units-ne0, else-units-ne0}
use Rattle.acb_index.proofs.shown_in.Goals as goal

pub loop-i-init : goal.loop-i-init
loop-i-init c = (sym (place-first _ _ _), omega arith, omega arith)

pub loop-i-preserved : goal.loop-i-preserved
loop-i-preserved c =
    let b = c.args.book.now in
    let s = b.file.now in
    let r = c.requires in
    let l = c.loop-i in
    let i = l.invariant in
    let e = c.pass-units.ensures in
    let w = shown-turn s r.bytes b.count b.first b.components r.opened l._i c.loop-i-test.true in
    let u : c.pass-units.result.0 ≡ units_at s (record_place b.components s b.first l._i) = e.0 ∙ ap (units_at s) i.0 in
    let next = passed s r.bytes b.count b.first b.components r.opened l._i c.loop-i-test.true i.0 e.1 in
    elim c.if-units-ne0.branch [
      | then-units-ne0 t ↦ (next, omega (arith, t.shown-is, i.1), omega (arith, t.shown-is, w, i.2, unpicked {A = ℕ} (units_at s (record_place b.components s b.first l._i)) 0 1 (λ z. t.if-units-ne0.true (u ∙ z))))
      | else-units-ne0 t ↦ (next, omega (arith, t.shown-is, i.1), omega (arith, t.shown-is, w, i.2, picked {A = ℕ} (units_at s (record_place b.components s b.first l._i)) 0 1 (sym u ∙ t.if-units-ne0.false)))
    ]

pub returns : goal.returns
returns c =
    let b = c.args.book.now in
    let s = b.file.now in
    let r = c.requires in
    let l = c.loop-i in
    let e : l._i ≡ b.count = omega (arith, c.loop-i-test.false, l.auto._i-end) in
    omega (arith, l.invariant.2, ap (λ (j : ℕ). length (shown_from j (drop j (names_in s)))) e, shown-end s r.bytes b.count b.first b.components r.opened)
