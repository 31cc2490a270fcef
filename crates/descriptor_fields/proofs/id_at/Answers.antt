use mathlib.Core.Path.{◌∙◌}
use Rattle.descriptor.specs.Reading.{id}
use Rattle.descriptor.proofs.Fields.{id-zero, id-some}
use Rattle.descriptor_fields.proofs.Exits.{onward, exit}
use Rattle.descriptor_fields.proofs.id_at.Goals as goal

pub returns-in_err-n : goal.returns-in_err-n
unfolding id
returns-in_err-n c = exit _ _ _ _ c.from_residual.ensures.1 c.in_err-n.ensures

pub returns-then-n-eq0 : goal.returns-then-n-eq0
unfolding id
returns-then-n-eq0 c = onward c.in_ok-n.ensures _ (c.run_at.ensures ∙ id-zero _ c.args.file.now _ c.if-n-eq0.true)

pub returns : goal.returns
unfolding id
returns c = onward c.in_ok-n.ensures _ (c.run_at-2.ensures ∙ id-some _ c.args.file.now _ c.if-n-eq0.false)
