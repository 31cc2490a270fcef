use Rattle.std.proofs.Common.{◌≡◌, ℕ, ◌+◌, ◌<◌, get_or}
use Rattle.order.specs.Order.{is_less}
use Rattle.acb_sort.specs.Keys.{key_order}
use Rattle.acb_sort.proofs.stretch.Given as goal

abbrev pub invariant-loop-k : goal.invariant-loop-k
invariant-loop-k l = (j : ℕ) → j + 1 < l.k → is_less (key_order l.file (get_or l.run (j + 1) 0) (get_or l.run j 0)) ≡ l.down
