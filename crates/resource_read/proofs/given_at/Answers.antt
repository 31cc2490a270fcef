use borrow.Author.Rules.{rules}
use mathlib.Core.Path.{refl, ◌∙◌}
use Rattle.resource_read.proofs.Trusted.{given-room, given_is}
use Rattle.resource_read.proofs.given_at.Goals as goal

pub bounds-file-at : goal.bounds-file-at
bounds-file-at c =
    let room = given-room c.args.file.now c.args.at c.requires.0 c.requires.1 in
    search rules

pub returns : goal.returns
returns c = given_is c.args.file.now c.args.at c.requires.0 c.requires.1 refl (c.from.ensures ∙ c.number_or_zero.ensures) c.number_or_zero-size.ensures
