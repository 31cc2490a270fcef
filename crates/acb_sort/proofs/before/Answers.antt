use Rattle.std.proofs.Common.{◌∙◌, ap}
use Rattle.order.specs.Order.{is_less}
use Rattle.acb_sort.proofs.Sorting.{less-told}
use Rattle.acb_sort.proofs.before.Goals as goal

pub returns : goal.returns
returns c = c.is_lt.ensures ∙ less-told c.compare.result ∙ ap is_less c.compare.ensures
