use Rattle.descriptor.specs.Reading.{raw_bytes}
use Rattle.descriptor_fields.proofs.Exits.{onward, exit}
use Rattle.descriptor_fields.proofs.bytes_at.Goals as goal

pub returns-in_err-n : goal.returns-in_err-n
unfolding raw_bytes
returns-in_err-n c = exit _ _ _ _ c.from_residual.ensures.1 c.in_err-n.ensures

pub returns : goal.returns
unfolding raw_bytes
returns c = onward c.in_ok-n.ensures _ c.run_at.ensures
