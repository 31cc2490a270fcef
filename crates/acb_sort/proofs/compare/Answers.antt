use Rattle.acb_sort.proofs.Sorting.{both-told}
use Rattle.acb_sort.proofs.compare.Goals as goal

pub returns : goal.returns
returns c = both-told c.args.file.now c.args.x c.args.y _ _ _ c.compare.ensures c.cmp.ensures c.then.ensures
