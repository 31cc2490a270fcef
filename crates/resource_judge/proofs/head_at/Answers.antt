use borrow.Author.Tests.{eq-eqb, ne_eqb}
use mathlib.Core.Bool.{Bool}
use mathlib.Core.Path.{sym, ap}
use Rattle.algebra.specs.Reader.{unless}
use Rattle.algebra.proofs.Laws.{judged-short, judged-bad, judged-ok}
use Rattle.algebra.proofs.Sequence.{step-no, step-on}
use Rattle.fault.proofs.Exit.{field-exit, short}
use Rattle.resource.specs.Reading.{is_signature}
use Rattle.resource_judge.proofs.head_at.Goals as goal

pub returns-in_err-signature : goal.returns-in_err-signature
returns-in_err-signature c =
    let a = c.args in
    field-exit 4 a.file.now a.at _ _ _ c.from_residual.ensures.1 c.in_err-signature.ensures (step-no _ _ (sym (judged-short 4 a.file.now a.at is_signature (short 4 a.file.now a.at c.in_err-signature.ensures))))

pub returns-then-signature-ne-SIGNATURE : goal.returns-then-signature-ne-SIGNATURE
returns-then-signature-ne-SIGNATURE c =
    let a = c.args in
    step-no _ _ (sym (judged-bad 4 a.file.now a.at is_signature 3 0 0 c.in_ok-signature.ensures (ap (λ (b : Bool). unless b 3) (ne_eqb _ _ c.if-signature-ne-SIGNATURE.true))))

pub returns : goal.returns
returns c =
    let a = c.args in
    step-on _ _ (sym (judged-ok 4 a.file.now a.at is_signature c.in_ok-signature.ensures (ap (λ (b : Bool). unless b 3) (eq-eqb _ _ c.if-signature-ne-SIGNATURE.false)))) c.number_at-2.ensures
