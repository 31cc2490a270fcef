use Prim.Native.Nat.{◌*◌, ◌≤◌}
use mathlib.Core.Path.{◌≡◌}
use lib.ListN.{length, drop}
use lib.Seq.{sets}
use Rattle.algebra.specs.Numbers.{joined}
use Rattle.aco.specs.Reading.{aco}
use Rattle.aco.specs.Row.{width, row}
use Rattle.aco_read.specs.Table.{records_of}
use Rattle.aco_read.proofs.fill_plain.Given as goal

abbrev pub invariant-loop-i : goal.invariant-loop-i
invariant-loop-i l = (l.i ≤ l.n) × (sets l.initial.table 0 (joined row (records_of (aco l.file))) ≡ sets l.table (width * l.i) (joined row (drop l.i (records_of (aco l.file))))) × (length l.table ≡ length l.initial.table)
