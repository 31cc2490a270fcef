use Rattle.std.proofs.Common.{ℕ, ◌≡◌, ◌∙◌, ◌+◌, ◌*◌, ◌%◌, sym, ap, refl, subst, length, arith}
use lib.ListN.{drop}
use Rattle.acb_order.specs.Index.{shown_from}
use Rattle.acb_order.specs.Places.{units_at}
use Rattle.acb_order.specs.scaffold.Places.{record_place, names_in}
use Rattle.acb_order.proofs.Files.{passed, place-first, known, shown-turn, shown-end}
use Rattle.acb_index.specs.scaffold.Drawn.{key_at, Drawing}
use Rattle.acb_index.proofs.Building.{picked, unpicked, drawing-skip, drawing-put}
use Rattle.acb_index.proofs.draw.Goals.{then-units-ne0, else-units-ne0}
use Rattle.acb_index.proofs.draw.Goals as goal

pub loop-i-init : goal.loop-i-init
loop-i-init c = (sym (place-first _ _ _), refl, omega arith, record { keys = λ j h. absurd (omega arith); shown = λ j h. absurd (omega arith); rising = λ j h a e. absurd (omega arith) })

pub overflow_mul-run : goal.overflow_mul-run
overflow_mul-run c =
    let b = c.args.book.now in
    let r = c.requires.0 in
    let k = known b.file.now r.bytes b.count b.first b.components r.opened c.loop-i.i c.loop-i-test.true in
    omega (arith, c.loop-i.invariant.0, k.place)

pub overflow_add-run : goal.overflow_add-run
overflow_add-run c =
    let b = c.args.book.now in
    let r = c.requires.0 in
    let k = known b.file.now r.bytes b.count b.first b.components r.opened c.loop-i.i c.loop-i-test.true in
    omega (arith, c.loop-i.invariant.0, k.place)

pub overflow_cast-run : goal.overflow_cast-run
overflow_cast-run c =
    let b = c.args.book.now in
    let r = c.requires.0 in
    let k = known b.file.now r.bytes b.count b.first b.components r.opened c.loop-i.i c.loop-i-test.true in
    omega (arith, c.loop-i.invariant.0, k.place)

pub bounds-run-k : goal.bounds-run-k
bounds-run-k c =
    let b = c.args.book.now in
    let s = b.file.now in
    let r = c.requires.0 in
    let l = c.loop-i in
    let i = l.invariant in
    let w = shown-turn s r.bytes b.count b.first b.components r.opened l.i c.loop-i-test.true in
    let u : c.pass-units.result.0 ≡ units_at s (record_place b.components s b.first l.i) = c.pass-units.ensures.0 ∙ ap (units_at s) i.0 in
    omega (arith, i.2, w, unpicked {A = ℕ} (units_at s (record_place b.components s b.first l.i)) 0 1 (λ z. c.if-units-ne0.true (u ∙ z)), i.1, c.requires.1)

pub loop-i-preserved : goal.loop-i-preserved
loop-i-preserved c =
    let b = c.args.book.now in
    let s = b.file.now in
    let r = c.requires.0 in
    let l = c.loop-i in
    let i = l.invariant in
    let e = c.pass-units.ensures in
    let w = shown-turn s r.bytes b.count b.first b.components r.opened l.i c.loop-i-test.true in
    let u : c.pass-units.result.0 ≡ units_at s (record_place b.components s b.first l.i) = e.0 ∙ ap (units_at s) i.0 in
    let next = passed s r.bytes b.count b.first b.components r.opened l.i c.loop-i-test.true i.0 e.1 in
    let key : 256 * l.at + l.i % 256 ≡ key_at b.components s b.first l.i = omega (arith, i.0) in
    let long = c.if-units-ne0.auto.run ∙ i.1 in
    elim c.if-units-ne0.branch [
      | then-units-ne0 t ↦
          let some : units_at s (record_place b.components s b.first l.i) ≡ 0 → ⊥ = λ z. t.if-units-ne0.true (u ∙ z) in
          let one = unpicked {A = ℕ} (units_at s (record_place b.components s b.first l.i)) 0 1 some in
          (next, long, omega (arith, t.k-is, w, i.2, one), rw (t.run-is, t.k-is) (drawing-put s r.bytes b.count b.first b.components r.opened l.i l.k l.run i.3 _ (omega (arith, i.2, w, one, i.1, c.requires.1)) key some))
      | else-units-ne0 t ↦
          let none = picked {A = ℕ} (units_at s (record_place b.components s b.first l.i)) 0 1 (sym u ∙ t.if-units-ne0.false) in
          (next, long, omega (arith, t.k-is, w, i.2, none), rw (t.run-is, t.k-is) (drawing-skip s r.bytes b.count b.first b.components r.opened l.i l.k l.run i.3))
    ]

pub returns : goal.returns
returns c =
    let b = c.args.book.now in
    let s = b.file.now in
    let r = c.requires.0 in
    let l = c.loop-i in
    let i = l.invariant in
    let e : l.i ≡ b.count = omega (arith, c.loop-i-test.false, l.auto.i-end) in
    let f : l.k ≡ length c.args.run.now = omega (arith, i.2, ap (λ (j : ℕ). length (shown_from j (drop j (names_in s)))) e, shown-end s r.bytes b.count b.first b.components r.opened, c.requires.1) in
    subst (λ (x : ℕ). Drawing s b.components b.first x (length c.args.run.now) l.run) e (subst (λ (x : ℕ). Drawing s b.components b.first l.i x l.run) f i.3)
