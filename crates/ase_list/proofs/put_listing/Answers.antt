use Prim.Native.Nat.{ℕ}
use mathlib.Core.Path.{ap, ◌∙◌}
use Rattle.ase.specs.Reading.{ase}
use Rattle.listing.specs.Buffer.{put_all}
use Rattle.listing.specs.Text.{refusal}
use Rattle.listing.proofs.Wording.{taken-beyond, taken-within}
use Rattle.listing.proofs.Putting.{put_both, put_last}
use Rattle.ase_list.proofs.Listed.{listed-refused, listed-accepted}
use Rattle.ase_list.proofs.put_listing.Goals as goal

pub returns-then-file-gt-TAKEN : goal.returns-then-file-gt-TAKEN
returns-then-file-gt-TAKEN c =
    let a = c.args in
    c.put_refusal.ensures ∙ ap (λ (k : ℕ). put_all (a.out.now, 0) (refusal k 0)) c.number.ensures ∙ ap (put_all (a.out.now, 0)) (taken-beyond 65536 a.file.now _ c.if-file-gt-TAKEN.true)

pub returns-in-Ok : goal.returns-in-Ok
returns-in-Ok c =
    let a = c.args in
    put_both _ _ _ (put_both _ _ _ (put_last _ _ _ (put_both _ _ _ c.put_text-at.ensures c.put_word-at.ensures) c.put-at.ensures) c.put_blocks-at.ensures) c.put_text.ensures
    ∙ ap (put_all (a.out.now, 0)) (listed-accepted a.file.now c.in-Ok.ensures ∙ taken-within 65536 a.file.now _ c.if-file-gt-TAKEN.false)

pub returns-in-Err : goal.returns-in-Err
returns-in-Err c =
    let a = c.args in
    c.put_refusal-in-Err.ensures ∙ ap (λ (k : ℕ). put_all (a.out.now, 0) (refusal k c.in-Err.refused.1)) c.number-in-Err.ensures ∙ ap (put_all (a.out.now, 0)) (listed-refused a.file.now (ase a.file.now) c.in-Err.ensures ∙ taken-within 65536 a.file.now _ c.if-file-gt-TAKEN.false)
