use Rattle.acb_read.proofs.Answers.{same-places}
use mathlib.Core.Path.{ap, ◌∙◌}
use Rattle.acb.specs.Reading.{acb}
use Rattle.acb_judge.specs.Answer.{told_header}
use Rattle.acb_read.specs.Answer.{RecordPlaces}
use Rattle.acb_shown_file.proofs.Naming.{Opened, opened, entry-there, values-none, values-are}
use Rattle.acb_shown_file.proofs.shown_at.Goals as goal

pub returns-then-book-i : goal.returns-then-book-i
returns-then-book-i c =
    let b = c.in_ok-book.book in
    let o : Opened c.args.file.now (told_header b.header) b.count = opened _ c.in_ok-book.ensures in
    values-none _ o c.args.i c.if-book-i.true

pub returns-in_err-swatch : goal.returns-in_err-swatch
returns-in_err-swatch c =
    let a = c.args in
    let b = c.in_ok-book.book in
    let o : Opened a.file.now (told_header b.header) b.count = opened _ c.in_ok-book.ensures in
    absurd (entry-there _ o a.i c.if-book-i.false _ _ (ap (λ (y : RecordPlaces). y.name) c.in_err-swatch.ensures ∙ (same-places a.i (acb a.file.now)).0))

pub returns : goal.returns
returns c =
    let a = c.args in
    let b = c.in_ok-book.book in
    let o : Opened a.file.now (told_header b.header) b.count = opened _ c.in_ok-book.ensures in
    c.values.ensures ∙ values-are _ o a.i c.if-book-i.false _ (ap (λ (y : RecordPlaces). y.components) c.in_ok-swatch.ensures ∙ (same-places a.i (acb a.file.now)).1)
