use Rattle.listing.proofs.Putting.{put_both}
use Rattle.acb_list.proofs.put_numbers.Goals as goal

pub returns : goal.returns
returns c = put_both _ _ _ (put_both _ _ _ c.put_word-at.ensures c.put_word-at-2.ensures) c.put_word.ensures
