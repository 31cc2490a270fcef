use Rattle.colour.proofs.channel.is_channel.Goals as goal

pub returns-then-wide : goal.returns-then-wide
returns-then-wide c = rw c.if-wide.true c.is_finite.ensures

pub returns : goal.returns
returns c = rw c.if-wide.false c.is_unit.ensures
