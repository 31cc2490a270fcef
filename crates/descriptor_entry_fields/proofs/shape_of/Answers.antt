use mathlib.Core.Path.{sym, ◌∙◌}
use native.Mathlib.Omega.{arith}
use Rattle.descriptor_entry_fields.proofs.Tables.{small-shape, second-shape, large-shape}
use Rattle.descriptor_entry_fields.proofs.shape_of.Goals as goal

pub returns-then-what-lt2 : goal.returns-then-what-lt2
returns-then-what-lt2 c = c.item_shape.ensures ∙ sym (small-shape _ _ c.if-what-lt2.true)

pub returns-then-what-eq2 : goal.returns-then-what-eq2
returns-then-what-eq2 c = c.form_shape.ensures ∙ sym (second-shape _ _ c.if-what-eq2.true)

pub returns : goal.returns
returns c = c.column_shape.ensures ∙ sym (large-shape _ _ (omega arith) c.if-what-eq2.false)
