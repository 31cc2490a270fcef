use mathlib.Core.Path.{sym, ◌∙◌}
use borrow.Author.Tests.{eqb-true, eqb-false}
use native.Mathlib.Omega.{arith}
use Rattle.tray.proofs.Channels.{none-judged, unit-judged, unit-stopped, other-judged}
use Rattle.tray.proofs.back.judge.Goals as goal

pub returns-then-is_empty : goal.returns-then-is_empty
returns-then-is_empty c = let a = c.args in none-judged a.tag a.bits.now (eqb-true _ _ (sym c.is_empty.ensures ∙ c.if-is_empty.true))

pub returns-in-Some : goal.returns-in-Some
returns-in-Some c = let a = c.args in unit-stopped a.tag a.bits.now (sym c.is_converted.ensures ∙ c.if-is_converted.true) _ c.in-Some.ensures

pub returns-in-None : goal.returns-in-None
returns-in-None c = let a = c.args in unit-judged a.tag a.bits.now (sym c.is_converted.ensures ∙ c.if-is_converted.true) c.in-None.ensures

pub returns : goal.returns
returns c = let a = c.args in other-judged a.tag a.bits.now (sym c.is_converted.ensures ∙ c.if-is_converted.false) (omega (arith, eqb-false _ _ (sym c.is_empty.ensures ∙ c.if-is_empty.false))) _ c.judge_first.ensures
