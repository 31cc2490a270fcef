use mathlib.Core.Path.{sym, ap}
use borrow.Author.Tests.{ne_eqb}
use Rattle.report.specs.scaffold.Parts.{ase_place}
use Rattle.report.proofs.ase_place.Goals as goal

pub returns-then-tag : goal.returns-then-tag
returns-then-tag c = sym (ap ase_place c.if-tag.true)

pub returns-then-tag-2 : goal.returns-then-tag-2
returns-then-tag-2 c = sym (ap ase_place c.if-tag-2.true)

pub returns-then-tag-3 : goal.returns-then-tag-3
returns-then-tag-3 c = sym (ap ase_place c.if-tag-3.true)

pub returns : goal.returns
returns c = simp (ne_eqb _ _ c.if-tag.false, ne_eqb _ _ c.if-tag-2.false, ne_eqb _ _ c.if-tag-3.false)
