use mathlib.Core.Path.{sym, ◌∙◌}
use native.Mathlib.Omega.{arith}
use borrow.Author.Tests.{leb-true, leb-false}
use Rattle.unicode_text.specs.Reading.{utf8}
use Rattle.unicode_utf8.specs.Answer.{units_fault}
use Rattle.unicode_utf8.proofs.Answers.{units-long, units-fine, gives_none, gives-short, gives_all}
use Rattle.unicode_utf8.proofs.units.utf8.Goals as goal

pub returns-then-units : goal.returns-then-units
returns-then-units c = let a = c.args in let us = a.units.now in gives_none (units_fault us) (utf8 us) a.out.now 1 (units-long us (omega arith)) (λ e. omega arith)

pub returns-then-not-has_room : goal.returns-then-not-has_room
returns-then-not-has_room c = let a = c.args in let us = a.units.now in gives-short (units_fault us) (utf8 us) a.out.now (units-fine us (omega arith)) (leb-false _ _ (sym c.has_room.ensures ∙ c.if-not-has_room.true))

pub fill-requires : goal.fill-requires
fill-requires c = (omega arith, leb-true _ _ (sym c.has_room.ensures ∙ c.if-not-has_room.false))

pub returns : goal.returns
returns c = let a = c.args in let us = a.units.now in gives_all (units_fault us) (utf8 us) a.out.now (units-fine us (omega arith)) (leb-true _ _ (sym c.has_room.ensures ∙ c.if-not-has_room.false)) _ _ c.fill.ensures.0 c.fill.ensures.1
