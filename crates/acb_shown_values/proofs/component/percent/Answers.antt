use Rattle.acb_shown_values.proofs.Components.{percent-shown}
use Rattle.acb_shown_values.proofs.component.percent.Goals as goal

pub returns : goal.returns
returns c = percent-shown c.args.byte c.ranges.byte.fits
