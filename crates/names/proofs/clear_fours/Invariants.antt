use Rattle.std.proofs.Common.{◌≡◌, ◌*◌, ◌≤◌, false}
use Rattle.algebra.specs.Numbers.{nums}
use Rattle.algebra.specs.Text.{any_zero}
use Rattle.names.proofs.clear_fours.Given as goal

abbrev pub invariant-loop-i : goal.invariant-loop-i
invariant-loop-i l = (32 * l.i ≤ l.k) × (any_zero (nums 2 (4 * (32 * l.i)) l.s l.at) ≡ false)
