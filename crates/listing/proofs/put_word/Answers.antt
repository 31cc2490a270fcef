use Rattle.listing.proofs.Putting.{put_one, put_both}
use Rattle.listing.proofs.put_word.Goals as goal

pub returns : goal.returns
returns c = put_both _ _ _ (put_one _ _ c.put-at.ensures) c.put_number.ensures
