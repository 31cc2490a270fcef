use Rattle.acb_shown_values.proofs.Components.{difference-fits, difference-shown}
use Rattle.acb_shown_values.proofs.component.centred.Goals as goal

pub overflow_sub-result : goal.overflow_sub-result
overflow_sub-result c = difference-fits c.args.byte c.ranges.byte.fits

pub returns : goal.returns
returns c = difference-shown c.args.byte c.ranges.byte.fits
