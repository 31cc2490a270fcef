use Rattle.descriptor.specs.Reading.{class}
use Rattle.descriptor_fields.proofs.Exits.{onward, exit}
use Rattle.descriptor_fields.proofs.class_at.Goals as goal

pub returns-in_err-next : goal.returns-in_err-next
unfolding class
returns-in_err-next c = exit _ _ _ _ c.from_residual.ensures.1 c.in_err-next.ensures

pub returns : goal.returns
unfolding class
returns c = onward c.in_ok-next.ensures _ c.id_at.ensures
