use borrow.Author.Tests.{eq-eqb, ne_eqb}
use mathlib.Core.Bool.{Bool}
use mathlib.Core.Path.{sym, ap, ◌∙◌}
use Rattle.algebra.specs.Chars.{chars}
use Rattle.algebra.specs.Reader.{unless}
use Rattle.algebra.proofs.Laws.{judged-short, judged-bad, judged-ok}
use Rattle.algebra.proofs.Sequence.{step-no, step-on}
use Rattle.fault.proofs.Exit.{told-exit, field-exit, short}
use Rattle.resource_document.specs.Reading.{fixed_number}
use Rattle.resource_document.proofs.Finding.{start-done}
use Rattle.resource_document.proofs.start_at.Goals as goal

pub returns-in_err-signature : goal.returns-in_err-signature
returns-in_err-signature c =
    let s = c.args.file.now in
    field-exit 4 s 0 _ _ _ c.from_residual.ensures.1 c.in_err-signature.ensures (step-no _ _ (sym (judged-short 4 s 0 (fixed_number (chars "8BPS")) (short 4 s 0 c.in_err-signature.ensures))) ∙ sym (start-done s))

pub returns-then-signature-ne-SIGNATURE : goal.returns-then-signature-ne-SIGNATURE
returns-then-signature-ne-SIGNATURE c =
    let s = c.args.file.now in
    step-no _ _ (sym (judged-bad 4 s 0 (fixed_number (chars "8BPS")) 3 0 0 c.in_ok-signature.ensures (ap (λ (b : Bool). unless b 3) (ne_eqb _ _ c.if-signature-ne-SIGNATURE.true)))) ∙ sym (start-done s)

pub returns-in_err-reserved : goal.returns-in_err-reserved
returns-in_err-reserved c =
    let s = c.args.file.now in
    let one = sym (judged-ok 4 s 0 (fixed_number (chars "8BPS")) c.in_ok-signature.ensures (ap (λ (b : Bool). unless b 3) (eq-eqb _ _ c.if-signature-ne-SIGNATURE.false))) in
    told-exit _ _ _ c.from_residual-in_err-reserved.ensures.1 (step-on _ _ one (step-no _ _ c.in_err-reserved.ensures) ∙ sym (start-done s))

pub returns : goal.returns
returns c =
    let s = c.args.file.now in
    let one = sym (judged-ok 4 s 0 (fixed_number (chars "8BPS")) c.in_ok-signature.ensures (ap (λ (b : Bool). unless b 3) (eq-eqb _ _ c.if-signature-ne-SIGNATURE.false))) in
    step-on _ _ one (step-on _ _ c.in_ok-reserved.ensures c.reserved_at.ensures) ∙ sym (start-done s)
