use Prim.Native.Nat.{ℕ}
use mathlib.Core.Path.{sym, ap, ◌∙◌}
use Rattle.aco.specs.Reading.{aco}
use Rattle.aco_judge.specs.Answer.{rejected}
use Rattle.aco_judge.specs.declared.Rejection.{Rejection}
use Rattle.listing.specs.Buffer.{put_all}
use Rattle.listing.specs.Text.{refusal}
use Rattle.listing.proofs.Wording.{taken-beyond, taken-within}
use Rattle.listing.proofs.Putting.{put_both}
use Rattle.aco_list.proofs.Listed.{listed-refused, listed-accepted}
use Rattle.aco_list.proofs.put_listing.Goals as goal

pub returns-then-file-gt-TAKEN : goal.returns-then-file-gt-TAKEN
returns-then-file-gt-TAKEN c =
    let a = c.args in
    c.put_refusal.ensures ∙ ap (λ (k : ℕ). put_all (a.out.now, 0) (refusal k 0)) c.number.ensures ∙ ap (put_all (a.out.now, 0)) (taken-beyond 65536 a.file.now _ c.if-file-gt-TAKEN.true)

pub returns-in-Err-Refused : goal.returns-in-Err-Refused
returns-in-Err-Refused c =
    let a = c.args in
    c.put_refusal-in-Err-Refused.ensures ∙ ap (λ (k : ℕ). put_all (a.out.now, 0) (refusal k c.in-Err-Refused.refused.1)) c.number-in-Err-Refused.ensures ∙ ap (put_all (a.out.now, 0)) (listed-refused (aco a.file.now) (sym (ap (λ (e : Rejection). rejected e) c.in-Err-Refused.field-0-is) ∙ c.in-Err-Refused.ensures) ∙ taken-within 65536 a.file.now _ c.if-file-gt-TAKEN.false)

pub returns-in-Err-Differ : goal.returns-in-Err-Differ
returns-in-Err-Differ c =
    let a = c.args in
    c.put_refusal-in-Err-Differ.ensures ∙ ap (λ (k : ℕ). put_all (a.out.now, 0) (refusal k c.in-Err-Differ.place)) c.number-in-Err-Differ.ensures ∙ ap (put_all (a.out.now, 0)) (listed-refused (aco a.file.now) (sym (ap (λ (e : Rejection). rejected e) c.in-Err-Differ.field-0-is) ∙ c.in-Err-Differ.ensures) ∙ taken-within 65536 a.file.now _ c.if-file-gt-TAKEN.false)

pub returns-in-Ok : goal.returns-in-Ok
returns-in-Ok c =
    let a = c.args in
    put_both _ _ _ (put_both _ _ _ c.put_heading-head.ensures c.put_colours-end.ensures) c.put_text.ensures
    ∙ ap (put_all (a.out.now, 0)) (listed-accepted a.file.now c.in-Ok.ensures ∙ taken-within 65536 a.file.now _ c.if-file-gt-TAKEN.false)
