use Rattle.acb_order.proofs.Files.{opened_of}
use Rattle.acb_index.proofs.Building.{indexed-short}
use Rattle.acb_index.proofs.build.Goals as goal

pub returns-then-index-shown : goal.returns-then-index-shown
returns-then-index-shown c =
    let s = c.args.file.now in
    let o = opened_of s c.in_ok-book.ensures in
    indexed-short s c.args.index.now _ _ _ o c.shown_in-shown.result c.shown_in-shown.ensures c.if-index-shown.true
