use mathlib.Core.Path.{◌≡◌}
use Rattle.ase.specs.Row.{width, taken}
use Rattle.ase.specs.Faults.{blocks_fault}
use Rattle.ase_writing.specs.Writing.{block_by_row, found_in}
use Rattle.algebra.specs.Table.{rows}
use Prim.Native.Nat.{◌-◌, ◌≤◌}
use Rattle.ase_write_judge.proofs.blocks_fault.Given as goal

abbrev pub invariant-loop-i : goal.invariant-loop-i
invariant-loop-i l = (l.i ≤ l.n) × (l.depth ≤ 16) × (blocks_fault (found_in l.text) (block_by_row l.text) 0 (rows width taken l.run l.n 0) ≡ blocks_fault (found_in l.text) (block_by_row l.text) l.depth (rows width taken l.run (l.n - l.i) l.i))
