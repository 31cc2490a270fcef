use mathlib.Core.Path.{sym}
use lib.ListN.{replicate}
use lib.Seq.{length-take-le}
use Rattle.listing.proofs.Putting.{put_both, put_last}
use Rattle.descriptor_list.proofs.Listed.{held}
use borrow.Author.Rules.{rules}
use Rattle.descriptor_list.proofs.put_accepted.Goals as goal

pub slice_bounds-parents-end : goal.slice_bounds-parents-end
slice_bounds-parents-end c =
    let a = c.args in
    sym (length-take-le a.rows a.depth.now c.requires.2)

pub returns : goal.returns
returns c =
    λ rs g.
    let h = held rs g c.requires.4 (replicate 3276 0) _ (search rules) _ c.parents-rows.ensures in
    put_both _ _ _ (put_both _ _ _ (put_last _ _ _ (put_both _ _ _ c.put_text-at.ensures c.put_word-at.ensures) c.put-at.ensures) (c.put_rows-at.ensures rs h)) c.put_text.ensures
