use Rattle.resource_write.proofs.Puts.{Putting}
use Prim.Native.Nat.{◌≤◌}
use lib.ListN.{length}
use lib.Seq.{sets}
use Rattle.resource.specs.Grammar.{section_bytes}
use Rattle.resource_writing.specs.Writing.{block_by_row}
use Rattle.resource_write_judge.specs.scaffold.Writing.{givens}
use mathlib.Core.List.{map}
use Rattle.resource_write.proofs.put_blocks.Given as goal

abbrev pub invariant-loop-i : goal.invariant-loop-i
invariant-loop-i l = (l.i ≤ l.n) × Putting l.text l.run l.n l.i l.p (length l.initial.out) (sets l.initial.out 0 (section_bytes (map (block_by_row l.text) (givens l.run l.n 0)))) l.out
