use mathlib.Core.Path.{sym, ◌∙◌}
use Rattle.descriptor_entry_judge.proofs.Judging as J
use Rattle.descriptor_entry_judge.proofs.column_fault.Goals as goal

pub returns-then-n-objects : goal.returns-then-n-objects
returns-then-n-objects c =
    let a = c.args in
    c.doubles_fault.ensures ∙ sym (J.count-right a.n a.objects _ c.if-n-objects.true)

pub returns : goal.returns
returns c = J.count-wrong _ _ _ c.if-n-objects.false
