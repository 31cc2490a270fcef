use Rattle.acb_index.proofs.Building.{sorted-keys, filled_is}
use Rattle.acb_index.proofs.fill.Goals as goal

pub number-requires : goal.number-requires
number-requires c =
    let b = c.args.book.now in
    let r = c.requires.0 in
    (r, c.tabulate.ensures, sorted-keys b.file.now r.bytes b.count b.first b.components r.opened _ _ _ c.sort.new.run c.requires.1 c.draw.ensures c.draw.auto.run c.sort.ensures)

pub returns : goal.returns
returns c =
    let b = c.args.book.now in
    let r = c.requires.0 in
    filled_is b.file.now r.bytes b.count b.first b.components r.opened _ _ _ _ c.requires.1 c.draw.ensures c.draw.auto.run c.sort.ensures c.number.ensures
