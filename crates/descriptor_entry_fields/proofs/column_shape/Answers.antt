use mathlib.Core.Path.{sym, ap, ◌∙◌}
use mathlib.Core.Bool.{Bool}
use borrow.Author.Tests.{eq-eqb, ne_eqb}
use Rattle.algebra.specs.Chars.{chars}
use Rattle.algebra.specs.Reader.{pick}
use Rattle.descriptor.specs.Reading.{is, unknown}
use Rattle.descriptor_entry.specs.declared.Field.TheVariants as f
use Rattle.descriptor_entry.specs.Shapes.{both, shape_in, column_shape}
use Rattle.descriptor_entry_fields.proofs.column_shape.Goals as goal

pub returns-then-kind-eq-COLUMN : goal.returns-then-kind-eq-COLUMN
unfolding column_shape
returns-then-kind-eq-COLUMN c = c.leaf.ensures ∙ sym (ap (λ (b : Bool). shape_in (pick b (is (both f.ArrayMeasure (f.Doubles 7))) unknown)) (eq-eqb _ (chars "UnFl") c.if-kind-eq-COLUMN.true))

pub returns : goal.returns
unfolding column_shape
returns c = c.unknown.ensures ∙ sym (ap (λ (b : Bool). shape_in (pick b (is (both f.ArrayMeasure (f.Doubles 7))) unknown)) (ne_eqb _ (chars "UnFl") c.if-kind-eq-COLUMN.false))
