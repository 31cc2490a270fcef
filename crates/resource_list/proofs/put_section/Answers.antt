use Prim.Native.Nat.{ℕ, ◌+◌}
use borrow.Author.Rules.{rules}
use mathlib.Core.Path.{ap, ◌∙◌}
use Rattle.resource_read.proofs.Answers.{accepted-of}
use Rattle.listing.specs.Buffer.{put_all}
use Rattle.listing.specs.Text.{refusal}
use Rattle.listing.proofs.Putting.{put_both, put_last}
use Rattle.resource_list.proofs.Listed.{refused-inside, section-refused, section-accepted}
use Rattle.resource_list.proofs.put_section.Goals as goal

pub overflow_add-first : goal.overflow_add-first
overflow_add-first c =
    let inside = refused-inside c.args.section.now c.args.first c.in-Err.ensures in
    let ends = c.requires in
    search rules

pub put_blocks-at-requires : goal.put_blocks-at-requires
put_blocks-at-requires c =
    let a = accepted-of c.args.section.now c.in-Ok.ensures in
    (a.sound, a.count, c.requires)

pub returns-in-Err : goal.returns-in-Err
returns-in-Err c =
    let a = c.args in
    c.put_refusal.ensures ∙ ap (λ (k : ℕ). put_all (a.out.now, 0) (refusal k (a.first + c.in-Err.refused.1))) c.number.ensures ∙ ap (put_all (a.out.now, 0)) (section-refused a.section.now a.first c.in-Err.ensures)

pub returns-in-Ok : goal.returns-in-Ok
returns-in-Ok c =
    let a = c.args in
    put_both _ _ _ (put_both _ _ _ (put_last _ _ _ (put_both _ _ _ c.put_text-at.ensures c.put_word-at.ensures) c.put-at.ensures) c.put_blocks-at.ensures) c.put_text.ensures
    ∙ ap (put_all (a.out.now, 0)) (section-accepted a.section.now a.first c.in-Ok.ensures)
