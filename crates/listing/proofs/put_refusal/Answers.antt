use mathlib.Core.Path.{ap, ◌∙◌}
use Prim.Native.Nat.{ℕ}
use Rattle.listing.specs.Buffer.{put_all}
use Rattle.listing.specs.Text.{word}
use Rattle.listing.proofs.Putting.{put_both, put_last}
use Rattle.listing.proofs.put_refusal.Goals as goal

pub returns : goal.returns
returns c =
    put_last _ _ _ (put_both _ _ _ (put_both _ _ _ (put_both _ _ _ c.put_text-at.ensures (c.put_word-at.ensures ∙ ap (λ (n : ℕ). put_all (c.put_text-at.new.out, c.put_text-at.result) (word n)) c.from.ensures)) c.put_text-at-2.ensures) c.put_word-at-2.ensures) c.put.ensures
