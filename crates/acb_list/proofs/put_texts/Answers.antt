use Rattle.listing.proofs.Putting.{put_both}
use Rattle.acb_list.proofs.put_texts.Goals as goal

pub returns : goal.returns
returns c = put_both _ _ _ (put_both _ _ _ (put_both _ _ _ c.put_shown-at.ensures c.put_shown-at-2.ensures) c.put_shown-at-3.ensures) c.put_shown.ensures
