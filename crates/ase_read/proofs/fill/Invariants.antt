use Prim.Native.Nat.{◌*◌, ◌≤◌}
use mathlib.Core.Path.{◌≡◌}
use lib.ListN.{length, drop}
use lib.Seq.{sets}
use Rattle.algebra.specs.Numbers.{joined}
use Rattle.ase.specs.Reading.{ase}
use Rattle.ase.specs.Row.{width}
use Rattle.ase_read.specs.Table.{row}
use Rattle.ase_read.specs.Table.{entries_of}
use Rattle.ase_read.specs.scaffold.Raw.{block_place}
use Rattle.ase_read.proofs.fill.Given as goal

abbrev pub invariant-loop-i : goal.invariant-loop-i
invariant-loop-i l = (l.i ≤ l.n) × (sets l.initial.table 0 (joined row (entries_of (ase l.file))) ≡ sets l.table (width * l.i) (joined row (drop l.i (entries_of (ase l.file))))) × (length l.table ≡ length l.initial.table) × (l.at ≡ block_place l.file l.i)
