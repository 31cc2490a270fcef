use Rattle.listing.proofs.Putting.{put_both, put_last}
use Rattle.acb_list.proofs.put_heading.Goals as goal

pub returns : goal.returns
returns c =
    let space = put_both _ _ _ (put_both _ _ _ c.put_text-at.ensures c.put_word-at.ensures) c.put_word-at-2.ensures in
    put_both _ _ _ (put_last _ _ _ (put_both _ _ _ space c.put_numbers-at.ensures) c.put-at.ensures) c.put_tag.ensures
