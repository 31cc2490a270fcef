use Rattle.listing.proofs.Putting.{put_both, put_last}
use Rattle.descriptor_list.proofs.put_row.Goals as goal

pub returns : goal.returns
returns c =
    put_last _ _ _ (put_both _ _ _ (put_both _ _ _ (put_last _ _ _ c.put_number-at.ensures c.put-at.ensures) c.put_kind-at.ensures) c.put_places-at.ensures) c.put.ensures
