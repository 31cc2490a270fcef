use mathlib.Core.Path.{sym}
use native.Mathlib.Omega.{arith}
use lib.ListN.{length}
use Rattle.algebra.proofs.Writing.{needs-no, needs-all}
use Rattle.unicode_text.specs.Reading.{utf8}
use Rattle.unicode_utf8.specs.Answer.{units_fault}
use Rattle.unicode_utf8.proofs.Answers.{units-long, units-fine}
use Rattle.unicode_utf8.proofs.units.utf8_length.Goals as goal

pub returns-then-units : goal.returns-then-units
returns-then-units c = let us = c.args.units.now in needs-no (units_fault us) (length (utf8 us)) 1 (units-long us (omega arith)) (λ e. omega arith)

pub returns : goal.returns
returns c = let us = c.args.units.now in needs-all (units_fault us) (length (utf8 us)) c.count.result (units-fine us (omega arith)) (sym c.count.ensures)
