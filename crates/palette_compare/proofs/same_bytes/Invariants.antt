use Prim.Native.Nat.{◌≤◌}
use mathlib.Core.Path.{◌≡◌}
use mathlib.Core.Bool.{◌&&◌}
use lib.Dec.{eqb}
use lib.ListN.{length, drop}
use Rattle.palette_compare.specs.Compare.{same_numbers}
use Rattle.palette_compare.proofs.same_bytes.Given as goal

abbrev pub invariant-loop-i : goal.invariant-loop-i
invariant-loop-i l = (l.i ≤ length l.x) × (length l.x ≡ length l.y) × (same_numbers l.x l.y ≡ eqb l.any 0 && same_numbers (drop l.i l.x) (drop l.i l.y))
