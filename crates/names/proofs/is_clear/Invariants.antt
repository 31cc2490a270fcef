use Rattle.std.proofs.Common.{◌≡◌, ◌*◌, ◌≤◌, false}
use Rattle.algebra.specs.Numbers.{nums}
use Rattle.algebra.specs.Text.{any_zero}
use Rattle.algebra.specs.Lanes.{any_high_bit}
use Rattle.names.proofs.is_clear.Given as goal

abbrev pub invariant-loop-i : goal.invariant-loop-i
invariant-loop-i l = (l.i ≤ 32) × (any_high_bit 4 l.found ≡ false → any_zero (nums 2 (4 * l.i) l.s l.at) ≡ false)
