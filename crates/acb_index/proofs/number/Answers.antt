use Rattle.std.proofs.Common.{sym, subst, arith}
use Rattle.acb_index.specs.scaffold.Drawn.{KeyOf}
use Rattle.acb_index.proofs.number.Goals as goal

pub number_of-requires : goal.number_of-requires
number_of-requires c =
    let b = c.args.book.now in
    let l = c.loop-k in
    let i = l.invariant in
    (c.requires.0, c.requires.1, subst (KeyOf b.file.now b.components b.first b.count) (sym (i.past l.k (omega arith))) (c.requires.2 l.k c.loop-k-test.true))
