use mathlib.Core.Path.{sym, ap, ◌∙◌}
use Rattle.algebra.specs.Faults.{faults}
use Rattle.algebra.specs.Table.{whole}
use Rattle.acb.specs.Row.{width, taken}
use Rattle.colour.specs.Inks.{ink_number}
use Prim.Native.Nat.{ℕ}
use Rattle.acb_writing.specs.Writing.{unless_ink, ink_fault}
use Rattle.acb_write_judge.specs.Answer.{told_ending}
use Rattle.acb_write_judge.specs.declared.Ending.{Ending}
use Rattle.acb_write_judge.proofs.Outcomes.{no-inks}
use Rattle.acb_write_judge.proofs.judge_stated.Goals as goal

pub returns-in-Other : goal.returns-in-Other
returns-in-Other c =
    let gs = whole width taken c.args.records.now in
    no-inks gs ∙ sym (ap (λ (t : Ending). faults (ink_fault (told_ending t)) gs) c.in-Other.is)

pub returns-in-Tagged : goal.returns-in-Tagged
returns-in-Tagged c =
    let gs = whole width taken c.args.records.now in
    c.judge_inks.ensures ∙ ap (λ (k : ℕ). faults (unless_ink k) gs) (c.number.ensures ∙ ap ink_number c.ink_of.ensures)
    ∙ sym (ap (λ (t : Ending). faults (ink_fault (told_ending t)) gs) c.in-Tagged.is)
