use mathlib.Core.Path.{◌∙◌}
use Rattle.algebra.proofs.Sequence.{step-no, step-on}
use Rattle.fault.proofs.Exit.{told-exit, field-exit, short}
use Rattle.acb_judge.proofs.Judging.{opening-short, opening-bad, opening-good}
use Rattle.acb_judge.proofs.opening_at.Goals as goal

pub returns-in_err-signature : goal.returns-in_err-signature
returns-in_err-signature c =
    let s = c.args.file.now in
    field-exit 4 s 0 _ _ _ c.from_residual.ensures.1 c.in_err-signature.ensures (opening-short s (short 4 s 0 c.in_err-signature.ensures))

pub returns-then-signature-ne-SIGNATURE : goal.returns-then-signature-ne-SIGNATURE
returns-then-signature-ne-SIGNATURE c =
    opening-bad c.args.file.now _ _ c.in_ok-signature.ensures c.if-signature-ne-SIGNATURE.true

pub returns-in_err-b : goal.returns-in_err-b
returns-in_err-b c =
    told-exit _ _ _ c.from_residual-in_err-b.ensures.1 (step-no _ _ c.in_err-b.ensures ∙ opening-good c.args.file.now _ _ c.in_ok-signature.ensures c.if-signature-ne-SIGNATURE.false)

pub returns : goal.returns
returns c =
    step-on _ _ c.in_ok-b.ensures c.number_at-2.ensures ∙ opening-good c.args.file.now _ _ c.in_ok-signature.ensures c.if-signature-ne-SIGNATURE.false
