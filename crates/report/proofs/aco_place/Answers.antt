use native.Mathlib.Omega.{arith}
use mathlib.Core.Path.{sym, ap}
use borrow.Author.Tests.{ne_eqb}
use Rattle.palette.specs.declared.View.TheVariants.{Samples}
use Rattle.report.specs.scaffold.Parts.{tag_place}
use Rattle.report.proofs.aco_place.Goals as goal

pub returns-in-0 : goal.returns-in-0
returns-in-0 c = ap (tag_place Samples) (sym c.in-0.is)

pub returns-in-1 : goal.returns-in-1
returns-in-1 c = ap (tag_place Samples) (sym c.in-1.is)

pub returns-in-2 : goal.returns-in-2
returns-in-2 c = ap (tag_place Samples) (sym c.in-2.is)

pub returns-in-7 : goal.returns-in-7
returns-in-7 c = ap (tag_place Samples) (sym c.in-7.is)

pub returns-in_default : goal.returns-in_default
returns-in_default c = simp (ne_eqb c.args.space 0 (λ e. omega arith), ne_eqb c.args.space 1 (λ e. omega arith), ne_eqb c.args.space 2 (λ e. omega arith), ne_eqb c.args.space 7 (λ e. omega arith))
