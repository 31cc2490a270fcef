use mathlib.Core.Path.{sym, ap, ◌∙◌}
use mathlib.Core.Bool.{Bool}
use Rattle.algebra.specs.Reader.{pick}
use Rattle.descriptor_entry_judge.proofs.unit_fault.Goals as goal

pub returns-then-is_unit : goal.returns-then-is_unit
returns-then-is_unit c = sym (ap (λ (b : Bool). pick b 0 4) (sym c.is_unit.ensures ∙ c.if-is_unit.true))

pub returns : goal.returns
returns c = sym (ap (λ (b : Bool). pick b 0 4) (sym c.is_unit.ensures ∙ c.if-is_unit.false))
