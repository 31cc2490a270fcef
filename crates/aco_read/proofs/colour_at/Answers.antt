use mathlib.Core.Path.{sym, ◌∙◌}
use borrow.Author.Tests.{leb-true}
use Rattle.aco_read.proofs.Filling.{colour_there, zero_there}
use Rattle.aco_read.proofs.colour_at.Goals as goal

pub returns-then-not-is_there : goal.returns-then-not-is_there
returns-then-not-is_there c = zero_there c.args.file.now c.args.at (sym c.is_there.ensures ∙ c.if-not-is_there.true)

pub colour_in-requires : goal.colour_in-requires
colour_in-requires c = leb-true _ _ (sym c.is_there.ensures ∙ c.if-not-is_there.false)

pub returns : goal.returns
returns c = c.colour_in.ensures ∙ colour_there c.args.file.now c.args.at (leb-true _ _ (sym c.is_there.ensures ∙ c.if-not-is_there.false))
