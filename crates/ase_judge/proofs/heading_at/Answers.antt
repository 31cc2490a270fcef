use mathlib.Core.Path.{sym, ap, ◌∙◌}
use Rattle.algebra.specs.Reader.{Res, then, field, done, judged}
use Rattle.fault.proofs.Exit.{told-exit, field-exit, short}
use Rattle.ase.specs.Reading.{fixed_number}
use Rattle.ase_judge.proofs.Judging.{heading-short, heading-bad, heading-good}
use Rattle.ase_judge.proofs.heading_at.Goals as goal

pub returns-in_err-signature : goal.returns-in_err-signature
returns-in_err-signature c =
    let s = c.args.file.now in
    field-exit 4 s 0 _ _ _ c.from_residual.ensures.1 c.in_err-signature.ensures (sym (heading-short s (short 4 s 0 c.in_err-signature.ensures)))

pub returns-then-signature-ne-SIGNATURE : goal.returns-then-signature-ne-SIGNATURE
returns-then-signature-ne-SIGNATURE c = sym (heading-bad c.args.file.now _ _ c.in_ok-signature.ensures c.if-signature-ne-SIGNATURE.true)

pub returns-in_err-b : goal.returns-in_err-b
returns-in_err-b c =
    let s = c.args.file.now in
    told-exit _ _ _ c.from_residual-in_err-b.ensures.1
    (ap (λ (m : Res (Unit {0})). then m (λ u b. then (done (judged 2 (fixed_number 0) s b)) (λ u d. field 4 s d))) c.in_err-b.ensures
    ∙ sym (heading-good s _ _ c.in_ok-signature.ensures c.if-signature-ne-SIGNATURE.false))

pub returns-in_err-c : goal.returns-in_err-c
returns-in_err-c c =
    let s = c.args.file.now in
    told-exit _ _ _ c.from_residual-in_err-c.ensures.1
    (ap (λ (m : Res (Unit {0})). then m (λ u d. field 4 s d)) c.in_err-c.ensures
    ∙ ap (λ (m : Res (Unit {0})). then m (λ u b. then (done (judged 2 (fixed_number 0) s b)) (λ u d. field 4 s d))) c.in_ok-b.ensures
    ∙ sym (heading-good s _ _ c.in_ok-signature.ensures c.if-signature-ne-SIGNATURE.false))

pub returns : goal.returns
returns c =
    let s = c.args.file.now in
    c.number_at-2.ensures
    ∙ ap (λ (m : Res (Unit {0})). then m (λ u d. field 4 s d)) c.in_ok-c.ensures
    ∙ ap (λ (m : Res (Unit {0})). then m (λ u b. then (done (judged 2 (fixed_number 0) s b)) (λ u d. field 4 s d))) c.in_ok-b.ensures
    ∙ sym (heading-good s _ _ c.in_ok-signature.ensures c.if-signature-ne-SIGNATURE.false)
