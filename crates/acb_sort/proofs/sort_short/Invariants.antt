use Rattle.std.specs.List.Sorted.{IsPermutation}
use Rattle.order.specs.Run.{Ordered}
use Rattle.acb_sort.specs.Keys.{key_order}
use Rattle.acb_sort.proofs.sort_short.Given as goal

abbrev pub invariant-loop-i : goal.invariant-loop-i
invariant-loop-i l = IsPermutation l.fn.run l.run × Ordered (key_order l.file) l.i l.run
