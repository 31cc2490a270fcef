use Prim.Native.Nat.{ℕ}
use mathlib.Core.Path.{ap, ◌∙◌}
use Rattle.listing.specs.Buffer.{put_all}
use Rattle.listing.specs.Text.{word}
use Rattle.listing.proofs.Putting.{put_both, put_last}
use Rattle.aco_list.proofs.put_colour.Goals as goal

pub returns : goal.returns
returns c =
    let space = c.put_word-at.ensures ∙ ap (λ (v : ℕ). put_all (c.put_number-at.new.out, c.put_number-at.result) (word v)) c.from.ensures in
    let colour = put_both _ _ _ (put_both _ _ _ c.put_number-at.ensures space) c.put_samples-at.ensures in
    put_last _ _ _ (put_both _ _ _ (put_last _ _ _ colour c.put-at.ensures) c.put_name-at.ensures) c.put.ensures
