use Rattle.listing.proofs.Putting.{put_both, put_last}
use Rattle.resource_list.proofs.Listed.{put-part}
use Rattle.resource_list.proofs.put_block.Goals as goal

pub returns : goal.returns
returns c =
    let a = c.args in
    put_last _ _ _ (put_both _ _ _ (put_both _ _ _ (put_both _ _ _ (put_last _ _ _ (put_both _ _ _ c.put_number-at.ensures c.put_word-at.ensures) c.put-at.ensures) (put-part a.section.now a.given.name a.given.letters _ c.put_name-at.ensures)) c.put_word-at-2.ensures) c.put_word-at-3.ensures) c.put.ensures
