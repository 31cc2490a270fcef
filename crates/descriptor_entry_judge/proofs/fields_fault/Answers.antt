use mathlib.Core.Path.{refl}
use Rattle.descriptor_entry_judge.proofs.Judging as J
use Rattle.descriptor_entry_judge.proofs.fields_fault.Goals as goal

pub returns-in_err-field_fault : goal.returns-in_err-field_fault
returns-in_err-field_fault c =
    let a = c.args in
    J.fault-exit _ _ c.from_residual.ensures.1 (J.fault-first a.text.now a.objects a.shape a.row.now _ c.in_err-field_fault.ensures (J.numbered _))

pub returns-in_err-field_fault-2 : goal.returns-in_err-field_fault-2
returns-in_err-field_fault-2 c =
    let a = c.args in
    J.fault-exit _ _ c.from_residual-in_err-field_fault-2.ensures.1 (J.fault-second a.text.now a.objects a.shape a.row.now _ c.in_ok-field_fault.ensures refl _ c.in_err-field_fault-2.ensures (J.numbered _))

pub returns-in_err-field_fault-3 : goal.returns-in_err-field_fault-3
returns-in_err-field_fault-3 c =
    let a = c.args in
    J.fault-exit _ _ c.from_residual-in_err-field_fault-3.ensures.1
    (J.fault-third a.text.now a.objects a.shape a.row.now _ c.in_ok-field_fault.ensures refl _ c.in_ok-field_fault-2.ensures refl _ c.in_err-field_fault-3.ensures (J.numbered _))

pub returns : goal.returns
returns c =
    let a = c.args in
    J.fault-fourth a.text.now a.objects a.shape a.row.now _ c.in_ok-field_fault.ensures refl _ c.in_ok-field_fault-2.ensures refl _ _ c.in_ok-field_fault-3.ensures refl c.field_fault-4.ensures
