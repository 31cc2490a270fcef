use mathlib.Core.Path.{sym, ap, ◌∙◌}
use Prim.Native.Nat.{ℕ}
use Rattle.std.specs.Prelude.{Result}
use Rattle.fault.specs.declared.Refusal.{Refusal}
use Rattle.acb_shown_values.specs.Answer.{told_page}
use Rattle.listing.specs.Buffer.{put_all}
use Rattle.listing.proofs.Putting.{put_both, put_last}
use Rattle.acb_list.specs.Listing.{page}
use Rattle.acb_list.proofs.put_page.Goals as goal

pub returns-in-Ok : goal.returns-in-Ok
returns-in-Ok c =
    let a = c.args in
    put_last _ _ _ (put_both _ _ _ (put_both _ _ _ c.put_text-at.ensures c.put_word-at.ensures) c.put_word-at-in-Ok.ensures) c.put.ensures
    ∙ ap (λ (s : Result ℕ Refusal). put_all (a.out.now, a.n) (page a.page (told_page s))) (sym c.in-Ok.is)

pub returns-in-Err : goal.returns-in-Err
returns-in-Err c =
    let a = c.args in
    put_both _ _ _ (put_both _ _ _ c.put_text-at.ensures c.put_word-at.ensures) c.put_text.ensures
    ∙ ap (λ (s : Result ℕ Refusal). put_all (a.out.now, a.n) (page a.page (told_page s))) (sym c.in-Err.is)
