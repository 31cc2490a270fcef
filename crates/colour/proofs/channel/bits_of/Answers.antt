use Rattle.colour.proofs.Kept.{equal_no_nan, unequal-nan}
use Rattle.colour.proofs.channel.bits_of.Goals as goal

pub float_to_bits-result : goal.float_to_bits-result
float_to_bits-result c = equal_no_nan c.args.x c.if-x.true

pub returns : goal.returns
returns c = unequal-nan c.args.x c.if-x.false
