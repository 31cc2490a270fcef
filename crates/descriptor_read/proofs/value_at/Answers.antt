use Rattle.descriptor_judge.proofs.Whole.{handed}
use Rattle.descriptor_read.specs.Values.{told_value}
use Rattle.descriptor_read.proofs.Values.{place-no, place_is}
use Rattle.descriptor_read.proofs.value_at.Goals as goal

pub returns-in_err-extent : goal.returns-in_err-extent
returns-in_err-extent c = handed told_value _ _ c.from_residual.ensures.1 (place-no c.args.file.now c.args.row _ _ c.in_err-extent.ensures)

pub returns : goal.returns
returns c = place_is c.args.file.now c.args.row _ _ _ c.in_ok-extent.ensures
