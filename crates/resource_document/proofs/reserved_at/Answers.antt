use native.Mathlib.Omega.{arith}
use Rattle.fault.proofs.Exit.{told-exit}
use Rattle.resource_document.proofs.Finding.{run_small, reserved-cut, reserved-high, reserved-low, reserved-zero}
use Rattle.resource_document.proofs.reserved_at.Goals as goal

pub returns-in_err-next : goal.returns-in_err-next
returns-in_err-next c = told-exit _ _ _ c.from_residual.ensures.1 (reserved-cut c.args.file.now c.args.at c.in_err-next.ensures)

pub returns-then-number_or_zero-ne0 : goal.returns-then-number_or_zero-ne0
returns-then-number_or_zero-ne0 c = reserved-high c.args.file.now c.args.at c.in_ok-next.ensures _ c.number_or_zero.ensures c.if-number_or_zero-ne0.true

pub overflow_add-at : goal.overflow_add-at
overflow_add-at c = omega (arith, run_small c.args.file.now c.args.at c.in_ok-next.ensures)

pub returns-then-number_or_zero-ne0-2 : goal.returns-then-number_or_zero-ne0-2
returns-then-number_or_zero-ne0-2 c = reserved-low c.args.file.now c.args.at c.in_ok-next.ensures _ c.number_or_zero-2.ensures c.if-number_or_zero-ne0-2.true

pub returns : goal.returns
returns c =
    reserved-zero c.args.file.now c.args.at c.in_ok-next.ensures _ _ c.number_or_zero.ensures c.if-number_or_zero-ne0.false c.number_or_zero-2.ensures c.if-number_or_zero-ne0-2.false
