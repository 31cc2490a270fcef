use lib.Seq.{sets}
use mathlib.Core.List.{map}
use Rattle.algebra.specs.Numbers.{joined}
use Rattle.ase.specs.Grammar.{block_bytes}
use Rattle.algebra.specs.Table.{rows}
use Rattle.ase.specs.Row.{width, taken}
use Rattle.ase_writing.specs.Writing.{block_by_row}
use Rattle.ase_write_judge.specs.scaffold.Parts.{RecordsFit}
use mathlib.Core.Path.{◌≡◌}
use Prim.Native.Nat.{◌-◌, ◌≤◌}
use lib.ListN.{length}
use Rattle.ase_write.proofs.put_blocks.Given as goal

abbrev pub invariant-loop-i : goal.invariant-loop-i
invariant-loop-i l =
    (l.i ≤ l.n) × (sets l.initial.out l.at (joined block_bytes (map (block_by_row l.text) (rows width taken l.run l.n 0))) ≡ sets l.out l.p (joined block_bytes (map (block_by_row l.text) (rows width taken l.run (l.n - l.i) l.i))))
    × RecordsFit l.text (rows width taken l.run (l.n - l.i) l.i) l.p (length l.initial.out) × (length l.out ≡ length l.initial.out)
