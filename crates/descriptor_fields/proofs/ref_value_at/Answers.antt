use Rattle.descriptor.specs.Reading.{ref_value}
use Rattle.descriptor_fields.proofs.Exits.{onward, exit}
use Rattle.descriptor_fields.proofs.ref_value_at.Goals as goal

pub returns-in_err-next : goal.returns-in_err-next
unfolding ref_value
returns-in_err-next c = exit _ _ _ _ c.from_residual.ensures.1 c.in_err-next.ensures

pub returns : goal.returns
unfolding ref_value
returns c = onward c.in_ok-next.ensures _ c.form_at.ensures
