use Prim.Native.Nat.{ℕ}
use borrow.Author.Rules.{rules}
use mathlib.Core.Path.{ap, ◌∙◌}
use Rattle.listing.specs.Buffer.{put_all}
use Rattle.listing.specs.Text.{refusal}
use Rattle.resource_list.proofs.Listed.{section-ends, input-refused, input-section}
use Rattle.resource_list.proofs.put_listing.Goals as goal

pub overflow_add-end : goal.overflow_add-end
overflow_add-end c =
    let x = section-ends c.args.file.now c.in-Ok.ensures in
    search rules

pub slice_bounds-put_section-end : goal.slice_bounds-put_section-end
slice_bounds-put_section-end c =
    let x = section-ends c.args.file.now c.in-Ok.ensures in
    search rules

pub put_section-requires : goal.put_section-requires
put_section-requires c =
    let x = section-ends c.args.file.now c.in-Ok.ensures in
    search rules

pub returns-in-Err : goal.returns-in-Err
returns-in-Err c =
    let a = c.args in
    c.put_refusal.ensures ∙ ap (λ (k : ℕ). put_all (a.out.now, 0) (refusal k c.in-Err.refused.1)) c.number.ensures ∙ ap (put_all (a.out.now, 0)) (input-refused a.file.now c.in-Err.ensures)

pub returns-in-Ok : goal.returns-in-Ok
returns-in-Ok c =
    let a = c.args in
    c.put_section.ensures ∙ ap (put_all (a.out.now, 0)) (input-section a.file.now c.in-Ok.ensures)
