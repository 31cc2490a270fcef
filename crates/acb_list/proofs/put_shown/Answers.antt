use Prim.Native.Nat.{ℕ}
use mathlib.Core.List.{List}
use mathlib.Core.Path.{ap, ◌∙◌}
use Rattle.acb_shown_values.specs.Texts.{shown_text}
use Rattle.listing.specs.Buffer.{put_all}
use Rattle.listing.specs.Text.{name}
use Rattle.listing.proofs.Putting.{put_both, put_last}
use Rattle.acb_list.proofs.put_shown.Goals as goal

pub returns : goal.returns
returns c =
    let l = c.put_text-at in
    let bytes = c.shown_text.ensures ∙ ap shown_text c.name_part.ensures in
    put_last _ _ _ (put_both _ _ _ l.ensures (c.put_name-at.ensures ∙ ap (λ (x : List ℕ). put_all (l.new.out, l.result) (name x)) bytes)) c.put.ensures
