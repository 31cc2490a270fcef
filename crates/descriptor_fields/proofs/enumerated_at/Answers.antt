use Rattle.descriptor.specs.Reading.{enumerated}
use Rattle.descriptor_fields.proofs.Exits.{onward, exit}
use Rattle.descriptor_fields.proofs.enumerated_at.Goals as goal

pub returns-in_err-next : goal.returns-in_err-next
unfolding enumerated
returns-in_err-next c = exit _ _ _ _ c.from_residual.ensures.1 c.in_err-next.ensures

pub returns : goal.returns
unfolding enumerated
returns c = onward c.in_ok-next.ensures _ c.id_at-2.ensures
