use Rattle.acb_index.proofs.Building.{number-found}
use Rattle.acb_index.proofs.number_of.Goals as goal

pub overflow_sub-result-2 : goal.overflow_sub-result-2
overflow_sub-result-2 c =
    let b = c.args.book.now in
    let r = c.requires.0 in
    let f = number-found b.file.now r.bytes b.count b.first b.components r.opened c.args.table.now c.args.key c.from-last.result c.requires.1 c.requires.2 c.from-last.ensures in
    f.0

pub returns : goal.returns
returns c =
    let b = c.args.book.now in
    let r = c.requires.0 in
    let f = number-found b.file.now r.bytes b.count b.first b.components r.opened c.args.table.now c.args.key c.from-last.result c.requires.1 c.requires.2 c.from-last.ensures in
    (f.1, f.2)
