use Prim.Native.Nat.{ℕ}
use mathlib.Core.Path.{sym, ap, ◌∙◌}
use Rattle.descriptor_judge.specs.Answer.{told}
use Rattle.listing.specs.Buffer.{put_all}
use Rattle.listing.specs.Text.{refusal}
use Rattle.listing.proofs.Wording.{taken-beyond, taken-within}
use Rattle.descriptor_list.proofs.Listed.{listed-refused, listed-accepted}
use borrow.Author.Rules.{rules}
use Rattle.descriptor_list.proofs.put_listing.Goals as goal

pub returns-then-file-gt-TAKEN : goal.returns-then-file-gt-TAKEN
returns-then-file-gt-TAKEN c =
    let a = c.args in
    c.put_refusal.ensures ∙ ap (λ (k : ℕ). put_all (a.out.now, 0) (refusal k 0)) c.number.ensures ∙ ap (put_all (a.out.now, 0)) (taken-beyond 16384 a.file.now _ c.if-file-gt-TAKEN.true)

pub put_accepted-requires : goal.put_accepted-requires
put_accepted-requires c =
    let a = c.args in
    (listed-accepted a.file.now c.read.ensures.1 (search rules) (search rules) (search rules) (search rules) (search rules) c.if-file-gt-TAKEN.false (sym (ap told c.in-Ok.is) ∙ c.read.ensures.0)).2

pub returns-in-Err : goal.returns-in-Err
returns-in-Err c =
    let a = c.args in
    c.put_refusal-in-Err.ensures
    ∙ ap (λ (k : ℕ). put_all (a.out.now, 0) (refusal k c.in-Err.refused.1)) c.number-in-Err.ensures ∙ ap (put_all (a.out.now, 0)) (listed-refused a.file.now c.read.ensures.1 (search rules) (search rules) (search rules) (search rules) (search rules) c.if-file-gt-TAKEN.false (sym (ap told c.in-Err.is) ∙ c.read.ensures.0) ∙ taken-within 16384 a.file.now _ c.if-file-gt-TAKEN.false)

pub returns-in-Ok : goal.returns-in-Ok
returns-in-Ok c =
    let a = c.args in
    let x = listed-accepted a.file.now c.read.ensures.1 (search rules) (search rules) (search rules) (search rules) (search rules) c.if-file-gt-TAKEN.false (sym (ap told c.in-Ok.is) ∙ c.read.ensures.0) in
    c.put_accepted.ensures x.0 x.1 ∙ ap (put_all (a.out.now, 0)) (x.3 ∙ taken-within 16384 a.file.now _ c.if-file-gt-TAKEN.false)
