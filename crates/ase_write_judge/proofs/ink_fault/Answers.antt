use mathlib.Core.Path.{sym, ◌∙◌}
use Rattle.ase.specs.Row.{given_in}
use Rattle.ase_write_judge.proofs.Judging.{ink-of-group, ink-process, ink-unstated, ink-stated}
use Rattle.ase_write_judge.proofs.ink_fault.Goals as goal

pub returns-then-given-ne-COLOUR : goal.returns-then-given-ne-COLOUR
returns-then-given-ne-COLOUR c = ink-of-group (given_in c.args.given) c.if-given-ne-COLOUR.true

pub returns-then-given-number : goal.returns-then-given-number
returns-then-given-number c = ink-process (given_in c.args.given) c.if-given-ne-COLOUR.false (c.if-given-number.true ∙ c.number.ensures)

pub returns-then-given-number-2 : goal.returns-then-given-number-2
returns-then-given-number-2 c =
    ink-unstated (given_in c.args.given) c.if-given-ne-COLOUR.false (c.if-given-number-2.true ∙ c.number-2.ensures)

pub returns : goal.returns
returns c =
    ink-stated (given_in c.args.given) c.if-given-ne-COLOUR.false (λ e. c.if-given-number.false (e ∙ sym c.number.ensures)) (λ e. c.if-given-number-2.false (e ∙ sym c.number-2.ensures))
