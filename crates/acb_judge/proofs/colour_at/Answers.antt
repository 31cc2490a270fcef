use mathlib.Core.Path.{sym}
use native.Mathlib.Omega.{arith}
use Rattle.fault.proofs.Exit.{told-exit}
use Rattle.acb_judge.proofs.Judging.{string-in, colour-no, code-short, components-short, colour-in}
use Rattle.acb_judge.proofs.colour_at.Goals as goal

pub returns-in_err-code : goal.returns-in_err-code
returns-in_err-code c =
    let a = c.args in
    told-exit _ _ _ c.from_residual.ensures.1 (colour-no a.n a.file.now a.at _ _ c.in_err-code.ensures)

pub overflow_sub-left : goal.overflow_sub-left
overflow_sub-left c =
    let a = c.args in
    omega (arith, string-in a.file.now a.at _ _ _ (sym c.in_ok-code.ensures))

pub returns-then-left-lt6 : goal.returns-then-left-lt6
returns-then-left-lt6 c =
    let a = c.args in
    code-short a.n a.file.now a.at _ _ _ c.in_ok-code.ensures (omega (arith, c.if-left-lt6.true))

pub returns-then-left-n : goal.returns-then-left-n
returns-then-left-n c =
    let a = c.args in
    components-short a.n a.file.now a.at _ _ _ c.in_ok-code.ensures (omega (arith, c.if-left-lt6.false)) (omega (arith, c.if-left-n.true))

pub returns : goal.returns
returns c =
    let a = c.args in
    colour-in a.n a.file.now a.at _ _ _ c.in_ok-code.ensures (omega (arith, c.if-left-n.false))
