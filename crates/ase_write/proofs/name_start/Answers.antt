use mathlib.Core.Path.{sym}
use borrow.Author.Tests.{eq-eqb, ne_eqb}
use Rattle.ase_write.proofs.name_start.Goals as goal

pub returns-then-given-eq0 : goal.returns-then-given-eq0
returns-then-given-eq0 c = sym (rw (eq-eqb c.args.given.units 0 c.if-given-eq0.true))

pub returns : goal.returns
returns c = sym (rw (ne_eqb c.args.given.units 0 c.if-given-eq0.false))
