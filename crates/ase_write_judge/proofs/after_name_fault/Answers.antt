use Rattle.ase_write_judge.proofs.Judging.{channels-by, colour-content-unknown, colour-content-bad, colour-content-typed}
use mathlib.Core.Path.{sym, ap, ◌∙◌}
use mathlib.Core.Bool.{not}
use borrow.Author.Tests.{le-leb, lt-leb}
use Rattle.ase.specs.Row.{given_in}
use Rattle.ase_write_judge.proofs.after_name_fault.Goals as goal

pub returns-in_default : goal.returns-in_default
returns-in_default c = colour-content-unknown (given_in c.args.given) (sym c.in_default.is ∙ c.from_tag.ensures)

pub returns-then-not-allows_all : goal.returns-then-not-allows_all
returns-then-not-allows_all c = let g = given_in c.args.given in colour-content-bad g _ (sym c.in-Some.is ∙ c.from_tag.ensures) c.allows_all.result (channels-by _ _ _ _ _ _ c.allows_all.ensures) (ap not c.if-not-allows_all.true)

pub returns-then-given-gt4 : goal.returns-then-given-gt4
returns-then-given-gt4 c = let g = given_in c.args.given in colour-content-typed g _ (sym c.in-Some.is ∙ c.from_tag.ensures) c.allows_all.result (channels-by _ _ _ _ _ _ c.allows_all.ensures) (ap not c.if-not-allows_all.false) 5 (sym (rw (lt-leb g.ink 4 c.if-given-gt4.true)))

pub returns : goal.returns
returns c = let g = given_in c.args.given in colour-content-typed g _ (sym c.in-Some.is ∙ c.from_tag.ensures) c.allows_all.result (channels-by _ _ _ _ _ _ c.allows_all.ensures) (ap not c.if-not-allows_all.false) 0 (sym (rw (le-leb g.ink 4 c.if-given-gt4.false)))
