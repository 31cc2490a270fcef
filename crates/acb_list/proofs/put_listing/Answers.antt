use Prim.Native.Nat.{ℕ}
use borrow.Author.Rules.{rules}
use native.Mathlib.Omega.{arith}
use mathlib.Core.Path.{ap, ◌∙◌}
use Rattle.listing.specs.Buffer.{put_all}
use Rattle.listing.specs.Text.{refusal}
use Rattle.listing.proofs.Wording.{taken-beyond, taken-within}
use Rattle.listing.proofs.Putting.{put_both}
use Rattle.acb_list.proofs.Listed.{listed-refused, listed-accepted}
use Rattle.acb_list.proofs.put_listing.Goals as goal

pub returns-then-file-gt-TAKEN : goal.returns-then-file-gt-TAKEN
returns-then-file-gt-TAKEN c =
    let a = c.args in
    c.put_refusal.ensures ∙ ap (λ (k : ℕ). put_all (a.out.now, 0) (refusal k 0)) c.number.ensures ∙ ap (put_all (a.out.now, 0)) (taken-beyond 65536 a.file.now _ c.if-file-gt-TAKEN.true)

pub returns-in-Err : goal.returns-in-Err
returns-in-Err c =
    let a = c.args in
    c.put_refusal-in-Err.ensures
    ∙ ap (λ (k : ℕ). put_all (a.out.now, 0) (refusal k c.in-Err.refused.1)) c.number-in-Err.ensures ∙ ap (put_all (a.out.now, 0)) (listed-refused a.file.now _ _ (search rules) (λ k. omega (arith, c.type_inv.file k)) c.if-file-gt-TAKEN.false c.in-Err.ensures ∙ taken-within 65536 a.file.now _ c.if-file-gt-TAKEN.false)

pub returns-in-Ok : goal.returns-in-Ok
returns-in-Ok c =
    let a = c.args in
    let x = listed-accepted a.file.now _ _ (search rules) (λ k. omega (arith, c.type_inv.file k)) c.if-file-gt-TAKEN.false c.in-Ok.ensures in
    put_both _ _ _ (put_both _ _ _ (put_both _ _ _ (put_both _ _ _ c.put_heading-at.ensures c.put_texts-at.ensures) c.put_records-at.ensures) c.put_pages-at.ensures) c.put_text.ensures
    ∙ ap (put_all (a.out.now, 0)) (x ∙ taken-within 65536 a.file.now _ c.if-file-gt-TAKEN.false)
