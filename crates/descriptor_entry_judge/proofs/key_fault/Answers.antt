use mathlib.Core.Path.{sym, ◌∙◌}
use Rattle.descriptor_entry_judge.proofs.Judging as J
use Rattle.descriptor_entry_judge.proofs.key_fault.Goals as goal

pub returns-then-is_keyed : goal.returns-then-is_keyed
returns-then-is_keyed c =
    let a = c.args in
    J.key-faulty a.text.now a.what a.row.now _ (sym c.is_keyed.ensures ∙ c.if-is_keyed.true) c.field_fault.ensures

pub returns : goal.returns
returns c =
    let a = c.args in
    J.key-sound a.text.now a.what a.row.now (sym c.is_keyed.ensures ∙ c.if-is_keyed.false)
