use Prim.Native.Nat.{◌+◌}
use lib.ListN.{length}
use mathlib.Core.Path.{◌≡◌}
use Rattle.resource_read.specs.scaffold.Parts.{rest, Sound}
use Rattle.resource_read.specs.Table.{found_in}
use Rattle.resource_read.proofs.Going.{found_from}
use Rattle.algebra.specs.Reader.{ok}
use Rattle.resource_read.proofs.index_of.Given as goal

abbrev pub invariant-loop-i : goal.invariant-loop-i
invariant-loop-i l = Sound l.file l.at × (l.i + length (rest l.file l.at) ≡ l.blocks) × (found_in l.id (ok (rest l.file 0) 0) ≡ found_from l.i l.id (rest l.file l.at))
