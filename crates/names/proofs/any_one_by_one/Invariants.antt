use Rattle.std.proofs.Common.{◌≡◌, ◌+◌, ◌-◌, ◌*◌, ◌≤◌, true}
use Rattle.algebra.specs.Numbers.{nums}
use Rattle.algebra.specs.Reader.{pick}
use Rattle.algebra.specs.Text.{any_zero}
use Rattle.names.proofs.any_one_by_one.Given as goal

abbrev pub invariant-loop-i : goal.invariant-loop-i
invariant-loop-i l = (l.i ≤ l.n) × (any_zero (nums 2 l.n l.s l.at) ≡ pick l.found true (any_zero (nums 2 (l.n - l.i) l.s (l.at + 2 * l.i))))
