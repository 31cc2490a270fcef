use Rattle.unicode_utf8.proofs.Scalars.{no-pair, pair-low}
use Rattle.unicode_utf8.proofs.scalar.is_pair.Goals as goal

pub returns-then-u-ne54 : goal.returns-then-u-ne54
returns-then-u-ne54 c = let a = c.args in no-pair a.u a.v c.if-u-ne54.true

pub returns : goal.returns
returns c = let a = c.args in pair-low a.u a.v c.if-u-ne54.false
