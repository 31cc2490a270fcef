use mathlib.Core.Path.{sym}
use native.Mathlib.Omega.{arith}
use Rattle.algebra.proofs.Laws.{field_next}
use Rattle.acb.proofs.Laws.{components-some}
use Rattle.fault.proofs.Exit.{short}
use Rattle.acb_read.proofs.Records.{step-short, step_cut, step-whole}
use Rattle.acb_read.proofs.name_of.Goals as goal

pub returns-in_default : goal.returns-in_default
returns-in_default c =
    let a = c.args in
    sym (step-short a.space a.file.now a.at (short 4 a.file.now a.at c.in_default.ensures))

pub overflow_sub-left : goal.overflow_sub-left
overflow_sub-left c =
    let f = field_next 4 c.args.file.now c.args.at _ _ c.in-Ok.ensures in
    omega arith

pub overflow_add-n : goal.overflow_add-n
overflow_add-n c = omega (arith, c.components_of-n.ensures, (components-some c.args.space).1)

pub returns-then-left-n : goal.returns-then-left-n
returns-then-left-n c =
    let a = c.args in
    let e = c.in-Ok.ensures in
    let f = field_next 4 a.file.now a.at _ _ e in
    sym (step_cut a.space a.file.now a.at _ _ e (omega (arith, c.if-left-n.true, c.components_of-n.ensures)))

pub returns-then-left-n-2 : goal.returns-then-left-n-2
returns-then-left-n-2 c =
    let a = c.args in
    let e = c.in-Ok.ensures in
    let f = field_next 4 a.file.now a.at _ _ e in
    sym (step_cut a.space a.file.now a.at _ _ e (omega (arith, c.if-left-n-2.true, c.if-left-n.false, c.components_of-n.ensures)))

pub returns : goal.returns
returns c =
    let a = c.args in
    let e = c.in-Ok.ensures in
    let f = field_next 4 a.file.now a.at _ _ e in
    let n = c.components_of-n.ensures in
    (sym (step-whole a.space a.file.now a.at _ _ e (omega (arith, n, c.if-left-n-2.false, c.if-left-n.false))), omega (arith, n, c.if-left-n-2.false, c.if-left-n.false))
