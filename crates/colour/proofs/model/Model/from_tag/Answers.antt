use mathlib.Core.Path.{sym, ap}
use borrow.Author.Tests.{ne_eqb}
use Rattle.colour.specs.Models.{model_of}
use Rattle.colour.proofs.model.Model.from_tag.Goals as goal

pub returns-then-tag : goal.returns-then-tag
unfolding model_of
returns-then-tag c = ap model_of (sym c.if-tag.true)

pub returns-then-tag-2 : goal.returns-then-tag-2
unfolding model_of
returns-then-tag-2 c = ap model_of (sym c.if-tag-2.true)

pub returns-then-tag-3 : goal.returns-then-tag-3
unfolding model_of
returns-then-tag-3 c = ap model_of (sym c.if-tag-3.true)

pub returns-then-tag-4 : goal.returns-then-tag-4
unfolding model_of
returns-then-tag-4 c = ap model_of (sym c.if-tag-4.true)

pub returns : goal.returns
unfolding model_of
returns c = simp (ne_eqb _ _ c.if-tag.false, ne_eqb _ _ c.if-tag-2.false, ne_eqb _ _ c.if-tag-3.false, ne_eqb _ _ c.if-tag-4.false)
