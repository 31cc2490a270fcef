use mathlib.Core.Path.{sym, ◌∙◌}
use Rattle.descriptor_entry_judge.proofs.Heads as H
use Rattle.descriptor_entry_judge.proofs.root_fault.Goals as goal

pub returns-then-number_in-eq-OBJECT : goal.returns-then-number_in-eq-OBJECT
returns-then-number_in-eq-OBJECT c = c.fields_fault.ensures ∙ H.root-right _ _ (sym c.number_in.ensures ∙ c.if-number_in-eq-OBJECT.true)

pub returns : goal.returns
returns c = H.root-other _ _ (λ e. c.if-number_in-eq-OBJECT.false (c.number_in.ensures ∙ e))
