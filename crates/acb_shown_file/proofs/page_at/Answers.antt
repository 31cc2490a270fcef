use Prim.Native.Nat.{ℕ, ◌-◌}
use mathlib.Core.Path.{sym, ap, ◌∙◌}
use mathlib.Core.List.{map}
use Rattle.algebra.proofs.Table.{accepted-of}
use Rattle.acb.specs.Reading.{acb}
use Rattle.acb_judge.specs.Answer.{report}
use Rattle.acb_read.specs.Walked.{walked}
use Rattle.acb_shown_values.specs.Pages.{sample_from}
use Rattle.acb_shown_values.specs.Answer.{page_of}
use Rattle.acb_shown_file.specs.View.{unnamed}
use Rattle.acb_shown_file.proofs.Walking.{page-none, page-shows}
use Rattle.acb_shown_file.proofs.page_at.Goals as goal

pub returns-in_default : goal.returns-in_default
returns-in_default c =
    let a = c.args in
    page-none a.file.now a.page (accepted-of report (acb a.file.now) c.in_ok-book.ensures) (sym c.in_default.ensures)

pub returns : goal.returns
returns c =
    let a = c.args in
    let h = c.in_ok-book.book.header in
    let r = c.in-Some in
    c.sample_at.ensures
    ∙ ap (λ (p : ℕ). page_of (sample_from r.i h.offset (map unnamed (walked h.space a.file.now p (r.end - r.i))))) c.place_at-at.ensures
    ∙ page-shows a.file.now a.page (accepted-of report (acb a.file.now) c.in_ok-book.ensures) (sym r.ensures)
