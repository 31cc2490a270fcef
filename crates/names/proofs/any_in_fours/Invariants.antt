use Rattle.std.proofs.Common.{◌≡◌, ◌+◌, ◌-◌, ◌*◌, ◌≤◌, true}
use Rattle.algebra.specs.Numbers.{nums}
use Rattle.algebra.specs.Reader.{pick}
use Rattle.algebra.specs.Text.{any_zero}
use Rattle.algebra.specs.Lanes.{any_high_bit}
use Rattle.names.proofs.any_in_fours.Given as goal

abbrev pub invariant-loop-i : goal.invariant-loop-i
invariant-loop-i l = (l.i ≤ l.k) × (any_zero (nums 2 (4 * l.k) l.s l.at) ≡ pick (any_high_bit 4 l.found) true (any_zero (nums 2 (4 * (l.k - l.i)) l.s (l.at + 8 * l.i))))
