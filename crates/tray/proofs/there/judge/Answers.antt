use mathlib.Core.Path.{sym, ◌∙◌}
use borrow.Author.Tests.{eqb-true, eqb-false}
use native.Mathlib.Omega.{arith}
use Rattle.tray.proofs.Samples.{none-judged, rgb-judged, cmyk-judged, gray-judged, gray-stopped, other-judged}
use Rattle.tray.proofs.there.judge.Goals as goal

pub returns-then-is_empty : goal.returns-then-is_empty
returns-then-is_empty c = let a = c.args in none-judged a.space a.samples.now (eqb-true _ _ (sym c.is_empty.ensures ∙ c.if-is_empty.true))

pub returns-in-Some : goal.returns-in-Some
returns-in-Some c = let a = c.args in gray-stopped a.space a.samples.now c.in-8.is _ c.in-Some.ensures

pub returns-in-0 : goal.returns-in-0
returns-in-0 c = let a = c.args in rgb-judged a.space a.samples.now c.in-0.is (λ j. omega (arith, c.type_inv.samples j))

pub returns-in-2 : goal.returns-in-2
returns-in-2 c = let a = c.args in cmyk-judged a.space a.samples.now c.in-2.is (λ j. omega (arith, c.type_inv.samples j))

pub returns-in-None : goal.returns-in-None
returns-in-None c = let a = c.args in gray-judged a.space a.samples.now c.in-8.is c.in-None.ensures

pub returns-in_default : goal.returns-in_default
returns-in_default c = let a = c.args in let r = c.in_default.in_default-own.rest in other-judged a.space a.samples.now r.0.0.1 r.0.1 r.1 (omega (arith, eqb-false _ _ (sym c.is_empty.ensures ∙ c.if-is_empty.false))) _ c.judge_first.ensures
