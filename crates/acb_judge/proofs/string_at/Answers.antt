use mathlib.Core.Path.{sym}
use native.Mathlib.Omega.{arith}
use Rattle.algebra.proofs.Laws.{field_next}
use Rattle.fault.proofs.Exit.{field-exit, short}
use Rattle.acb_judge.proofs.Judging.{string-short, string_cut, string-is}
use Rattle.acb_judge.proofs.string_at.Goals as goal

pub returns-in_err-units : goal.returns-in_err-units
returns-in_err-units c =
    let a = c.args in
    field-exit 4 a.file.now a.at _ _ _ c.from_residual.ensures.1 c.in_err-units.ensures (sym (string-short a.file.now a.at (short 4 a.file.now a.at c.in_err-units.ensures)))

pub overflow_sub-file : goal.overflow_sub-file
overflow_sub-file c =
    let f = field_next 4 c.args.file.now c.args.at _ _ c.in_ok-units.ensures in
    omega arith

pub returns-then-file-first : goal.returns-then-file-first
returns-then-file-first c =
    let a = c.args in
    sym (string_cut a.file.now a.at _ _ c.in_ok-units.ensures (omega (arith, c.if-file-first.true)))

pub returns : goal.returns
returns c =
    let a = c.args in
    let e = c.in_ok-units.ensures in
    let f = field_next 4 a.file.now a.at _ _ e in
    sym (string-is a.file.now a.at _ _ e _ (omega (arith, c.if-file-first.false)) (omega arith))
