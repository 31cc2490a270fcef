use mathlib.Core.Path.{ap, ◌∙◌}
use lib.ListN.{length}
use Rattle.algebra.specs.Reader.{ok}
use Rattle.acb.specs.Grammar.{Tag}
use Rattle.fault.proofs.Exit.{field-exit, short}
use Rattle.acb_judge.proofs.Judging.{known-no, known_is, closing-none, closing-short, closing-bad, closing-left, closing-is}
use Rattle.acb_judge.proofs.closing_at.Goals as goal

pub returns-then-at-file : goal.returns-then-at-file
returns-then-at-file c = let a = c.args in closing-none a.file.now a.at c.if-at-file.true

pub returns-in_err-bits : goal.returns-in_err-bits
returns-in_err-bits c =
    let a = c.args in
    let e = c.in_err-bits.ensures in
    field-exit 8 a.file.now a.at _ _ _ c.from_residual.ensures.1 e (closing-short a.file.now a.at c.if-at-file.false (short 8 a.file.now a.at e))

pub returns-in_default : goal.returns-in_default
returns-in_default c =
    let a = c.args in
    closing-bad a.file.now a.at c.if-at-file.false _ _ c.in_ok-bits.ensures (known-no c.in_ok-bits.bits c.in_default.ensures)

pub returns-then-end-file : goal.returns-then-end-file
returns-then-end-file c =
    let a = c.args in
    let k = known_is c.in_ok-bits.bits _ c.in-Some.ensures in
    closing-left a.file.now a.at c.if-at-file.false _ _ c.in_ok-bits.ensures k.0 c.if-end-file.true

pub returns : goal.returns
returns c =
    let a = c.args in
    let k = known_is c.in_ok-bits.bits _ c.in-Some.ensures in
    ap (λ (t : Tag). ok t (length a.file.now)) k.1 ∙ closing-is a.file.now a.at c.if-at-file.false _ _ c.in_ok-bits.ensures k.0 c.if-end-file.false
