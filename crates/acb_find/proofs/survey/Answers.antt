use Rattle.std.proofs.Common.{ℕ, ◌≡◌, ◌∙◌, ◌*◌, ◌+◌, ◌-◌, sym, ap, length, arith}
use lib.ListN.{drop}
use Rattle.acb_order.specs.Index.{shown_from}
use Rattle.acb_order.specs.Places.{units_at}
use Rattle.acb_order.specs.scaffold.Places.{record_place, names_in}
use Rattle.acb_order.proofs.Files.{passed, place-first, known, shown-turn, shown-end}
use Rattle.acb_find.proofs.Checking.{Marking, picked, unpicked, marking-put, marking-skip, marked_all}
use Rattle.acb_find.proofs.survey.Goals.{then-due-eq0, else-due-eq0, then-units-ne0, else-units-ne0}
use Rattle.acb_find.proofs.survey.Goals as goal

pub loop-i-init : goal.loop-i-init
loop-i-init c =
    let z : c.args.d * 0 ≡ 0 + 0 = omega arith in
    (sym (place-first _ _ _), omega arith, omega arith, record { ahead = z; soon = c.requires.1.some; marked = λ k h. absurd (omega arith); room = c.requires.2 })

pub overflow_cast-marks : goal.overflow_cast-marks
overflow_cast-marks c =
    let b = c.args.book.now in
    let r = c.requires.0 in
    let k = known b.file.now r.bytes b.count b.first b.components r.opened c.loop-i._i c.loop-i-test.true in
    omega (arith, c.loop-i.invariant.0, k.place)

pub loop-i-preserved : goal.loop-i-preserved
loop-i-preserved c =
    let b = c.args.book.now in
    let s = b.file.now in
    let r = c.requires.0 in
    let l = c.loop-i in
    let i = l.invariant in
    let h = c.loop-i-test.true in
    let e = c.pass-units.ensures in
    let w = shown-turn s r.bytes b.count b.first b.components r.opened l._i h in
    let u : c.pass-units.result.0 ≡ units_at s (record_place b.components s b.first l._i) = e.0 ∙ ap (units_at s) i.0 in
    let next = passed s r.bytes b.count b.first b.components r.opened l._i h i.0 e.1 in
    let marks : Marking s b.components b.first c.args.d (l._i + 1) c.if-due-eq0.j (c.if-due-eq0.due - 1) c.if-due-eq0.marks = elim c.if-due-eq0.branch [
      | then-due-eq0 t ↦ rw (t.marks-is, t.j-is, t.due-is) (marking-put s b.components b.first b.count c.args.d l._i l.j l.due l.at l.marks c.requires.1 h i.3 t.if-due-eq0.true i.0)
      | else-due-eq0 t ↦ rw (t.marks-is, t.j-is, t.due-is) (marking-skip s b.components b.first b.count c.args.d l._i l.j l.due l.at l.marks c.requires.1 h i.3 t.if-due-eq0.false)
    ] in
    elim c.if-units-ne0.branch [
      | then-units-ne0 t ↦ (next, omega (arith, t.shown-is, i.1), omega (arith, t.shown-is, w, i.2, unpicked {A = ℕ} (units_at s (record_place b.components s b.first l._i)) 0 1 (λ z. t.if-units-ne0.true (u ∙ z))), marks)
      | else-units-ne0 t ↦ (next, omega (arith, t.shown-is, i.1), omega (arith, t.shown-is, w, i.2, picked {A = ℕ} (units_at s (record_place b.components s b.first l._i)) 0 1 (sym u ∙ t.if-units-ne0.false)), marks)
    ]

pub returns : goal.returns
returns c =
    let b = c.args.book.now in
    let s = b.file.now in
    let r = c.requires.0 in
    let l = c.loop-i in
    let i = l.invariant in
    let e : l._i ≡ b.count = omega (arith, c.loop-i-test.false, l.auto._i-end) in
    let z = shown-end s r.bytes b.count b.first b.components r.opened in
    (omega (arith, i.2, ap (λ (j : ℕ). length (shown_from j (drop j (names_in s)))) e, z), marked_all s b.components b.first c.args.d l.j b.count l.marks (omega (arith, e, i.3.ahead)) i.3.marked)
