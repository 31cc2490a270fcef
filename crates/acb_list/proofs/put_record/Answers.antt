use Rattle.listing.specs.Buffer.{put_all}
use Rattle.listing.specs.Text.{name}
use mathlib.Core.List.{List}
use mathlib.Core.Path.{ap, ◌∙◌}
use Prim.Native.Nat.{ℕ}
use Rattle.listing.proofs.Putting.{put_one, put_both, put_last}
use Rattle.acb_list.proofs.put_record.Goals as goal

pub returns : goal.returns
returns c =
    let one = put_both _ _ _ (put_one _ _ c.put-at.ensures) c.put_name-at.ensures in
    let two = put_last _ _ _ (put_both _ _ _ one c.put_components-at.ensures) c.put-at-2.ensures in
    put_last _ _ _ (put_both _ _ _ two (c.put_name-at-2.ensures ∙ ap (λ (x : List ℕ). put_all (c.put-at-2.new.out, c.put-at-2.result) (name x)) c.name_part.ensures)) c.put.ensures
