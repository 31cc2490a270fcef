use mathlib.Core.Path.{sym, ap, ◌∙◌}
use Rattle.std.specs.Prelude.{Option}
use Rattle.colour.specs.declared.model.Model.{Model}
use Rattle.colour.specs.Channels.{made_in}
use Rattle.colour.proofs.channel.Channels.from_tag.Goals as goal

pub returns-in-Some : goal.returns-in-Some
returns-in-Some c = let a = c.args in c.from_bits.ensures ∙ ap (λ (k : Option Model). made_in k a.a a.b a.c a.d) (sym c.in-Some.is ∙ c.from_tag.ensures)

pub returns-in-None : goal.returns-in-None
returns-in-None c = let a = c.args in ap (λ (k : Option Model). made_in k a.a a.b a.c a.d) (sym c.in-None.is ∙ c.from_tag.ensures)
