use borrow.Author.Tests.{eq-eqb, ne_eqb}
use Rattle.listing.proofs.Putting.{put_both}
use Rattle.aco_list.proofs.put_heading.Goals as goal

pub returns-then-counts-eq1 : goal.returns-then-counts-eq1
returns-then-counts-eq1 c =
    rw (eq-eqb _ _ c.if-counts-eq1.true) (put_both _ _ _ (put_both _ _ _ c.put_text-at.ensures c.put_word-at.ensures) c.put_text.ensures)

pub returns : goal.returns
returns c =
    rw (ne_eqb _ _ c.if-counts-eq1.false) (put_both _ _ _ (put_both _ _ _ c.put_text-at.ensures c.put_word-at.ensures) c.put_text-2.ensures)
