use Prim.Native.Nat.{◌+◌, ◌≤◌}
use mathlib.Core.Path.{◌≡◌}
use lib.ListN.{length, drop}
use lib.Seq.{sets}
use Rattle.algebra.specs.Numbers.{be, joined}
use Rattle.acb_write.proofs.put_bytes.Given as goal

abbrev pub invariant-loop-i : goal.invariant-loop-i
invariant-loop-i l = (l.i ≤ length l.numbers) × (sets l.initial.out l.at (joined (be 1) l.numbers) ≡ sets l.out (l.at + l.i) (joined (be 1) (drop l.i l.numbers))) × (length l.out ≡ length l.initial.out)
