use mathlib.Core.Path.{refl}
use Rattle.descriptor_entry_judge.proofs.Judging as J
use Rattle.descriptor_entry_judge.proofs.units_fault.Goals as goal

pub returns-then-n-eq0 : goal.returns-then-n-eq0
returns-then-n-eq0 c = let a = c.args in J.units-none a.text.now a.first a.n c.if-n-eq0.true

pub returns-in_err-run_fault : goal.returns-in_err-run_fault
returns-in_err-run_fault c =
    let a = c.args in
    J.fault-exit _ _ c.from_residual.ensures.1 (J.units-out a.text.now a.first a.n _ c.in_err-run_fault.ensures (J.numbered _))

pub returns-then-number_or_zero-ne0 : goal.returns-then-number_or_zero-ne0
returns-then-number_or_zero-ne0 c =
    let a = c.args in
    J.units_open a.text.now a.first a.n _ c.in_ok-run_fault.ensures c.if-n-eq0.false refl _ c.number_or_zero.ensures c.if-number_or_zero-ne0.true

pub returns : goal.returns
returns c =
    let a = c.args in
    J.units-shut a.text.now a.first a.n _ c.in_ok-run_fault.ensures c.if-n-eq0.false refl _ c.number_or_zero.ensures c.if-number_or_zero-ne0.false
