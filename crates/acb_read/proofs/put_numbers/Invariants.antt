use Prim.Native.Nat.{◌+◌, ◌≤◌}
use mathlib.Core.Path.{◌≡◌}
use lib.ListN.{length, drop}
use lib.Seq.{sets}
use Rattle.acb_read.proofs.put_numbers.Given as goal

abbrev pub invariant-loop-i : goal.invariant-loop-i
invariant-loop-i l = (l.i ≤ 13) × (sets l.initial.table l.to l.row ≡ sets l.table (l.to + l.i) (drop l.i l.row)) × (length l.table ≡ length l.initial.table)
