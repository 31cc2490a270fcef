use Prim.Native.Nat.{ℕ}
use mathlib.Core.Path.{refl, ap, ◌∙◌}
use Rattle.descriptor_raw.specs.Raw.{due_of}
use Rattle.descriptor_entry.specs.Pieces.{fault}
use Rattle.descriptor_entry.specs.Entries.{objects_due, field_pieces}
use Rattle.descriptor_entry_judge.proofs.Heads as H
use Rattle.descriptor_entry_judge.proofs.Judging as J
use Rattle.descriptor_entry_judge.proofs.head_fault.Goals as goal

pub returns-in_err-key_fault : goal.returns-in_err-key_fault
returns-in_err-key_fault c =
    let a = c.args in
    J.fault-exit _ _ c.from_residual.ensures.1 (H.fault-key a.text.now a.row.now (due_of a.what 0) (objects_due (due_of a.what a.objects)) a.shape _ c.in_err-key_fault.ensures (J.numbered _))

pub returns-then-shape : goal.returns-then-shape
returns-then-shape c =
    let a = c.args in
    H.fault-fields a.text.now a.row.now (due_of a.what 0) (objects_due (due_of a.what a.objects)) a.shape _ c.in_ok-key_fault.ensures refl c.if-shape.true _
    (c.fields_fault.ensures ∙ ap (λ (m : ℕ). fault a.text.now (field_pieces m a.shape a.row.now)) c.objects_due.ensures)

pub returns : goal.returns
returns c =
    let a = c.args in
    H.fault-kind a.text.now a.row.now (due_of a.what 0) (objects_due (due_of a.what a.objects)) a.shape _ c.in_ok-key_fault.ensures refl c.if-shape.false
