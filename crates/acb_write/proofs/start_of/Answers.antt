use mathlib.Core.Path.{sym}
use borrow.Author.Tests.{eq-eqb, ne_eqb}
use Rattle.acb_write.proofs.start_of.Goals as goal

pub returns-then-string-eq0 : goal.returns-then-string-eq0
returns-then-string-eq0 c = sym (rw (eq-eqb c.args.string.units 0 c.if-string-eq0.true))

pub returns : goal.returns
returns c = sym (rw (ne_eqb c.args.string.units 0 c.if-string-eq0.false))
