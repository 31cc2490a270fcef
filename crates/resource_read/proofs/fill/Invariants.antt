use Prim.Native.Nat.{◌+◌, ◌≤◌}
use lib.ListN.{length}
use lib.Seq.{sets}
use mathlib.Core.Path.{◌≡◌}
use Rattle.algebra.specs.Numbers.{joined}
use Rattle.resource_read.specs.scaffold.Parts.{rest}
use Rattle.resource_read.specs.Table.{entry_row}
use Rattle.resource_read.proofs.Going.{Filling}
use Rattle.resource_read.proofs.fill.Given as goal

abbrev pub invariant-loop-i : goal.invariant-loop-i
invariant-loop-i l = Filling l.file l.at l.i (sets l.initial.table 0 (joined entry_row (rest l.file 0))) l.table × (length l.table ≡ length l.initial.table) × (l.i ≤ l.at) × (l.i + length (rest l.file l.at) ≡ l.blocks)
