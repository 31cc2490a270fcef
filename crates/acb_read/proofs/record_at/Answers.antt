use Prim.Native.Nat.{ℕ}
use mathlib.Core.Path.{sym, ap, ◌∙◌}
use mathlib.Core.List.{[]}
use native.Mathlib.Omega.{arith}
use Rattle.algebra.proofs.Table.{accepted-of, record-none}
use Rattle.colour.specs.Inks.{ink_number}
use Rattle.acb.specs.Reading.{acb}
use Rattle.acb.specs.Row.{taken, records_of}
use Rattle.acb_judge.specs.Answer.{Report, report}
use Rattle.acb_read.specs.Answer.{RecordPlaces, told_record, places, with_ink}
use Rattle.acb_read.specs.Walked.{step}
use Rattle.acb_read.proofs.Answers.{record-walked, record-stated, record-there, count-records}
use Rattle.acb_read.proofs.record_at.Goals as goal

pub returns-then-book-i : goal.returns-then-book-i
returns-then-book-i c =
    let a = c.args in
    ap places (record-none records_of report (λ (r : Report). r.count) count-records (acb a.file.now) (taken []) a.i (accepted-of report (acb a.file.now) c.in_ok-book.ensures) (omega (arith, c.if-book-i.true)))

pub returns-in_err-swatch : goal.returns-in_err-swatch
returns-in_err-swatch c =
    let a = c.args in
    let s = a.file.now in
    absurd (record-there s (accepted-of report (acb s) c.in_ok-book.ensures) a.i c.if-book-i.false _ _
    (ap told_record (sym c.in_err-swatch.was) ∙ ap (λ (w : RecordPlaces × ℕ). w.0) c.step_at.ensures ∙ ap (λ (p : ℕ). (step c.in_ok-book.book.header.space s p).0) c.place_at-at.ensures
    ∙ record-walked s (accepted-of report (acb s) c.in_ok-book.ensures) a.i c.if-book-i.false))

pub returns : goal.returns
returns c =
    let a = c.args in
    let s = a.file.now in
    let e = accepted-of report (acb s) c.in_ok-book.ensures in
    let k = c.ink_of in
    ap (with_ink (ink_number k.result))
    (ap told_record (sym c.in_ok-swatch.was) ∙ ap (λ (w : RecordPlaces × ℕ). w.0) c.step_at.ensures ∙ ap (λ (p : ℕ). (step c.in_ok-book.book.header.space s p).0) c.place_at-at.ensures ∙ record-walked s e a.i c.if-book-i.false)
    ∙ record-stated s e a.i c.if-book-i.false (ink_number k.result) (ap ink_number k.ensures)
