use Prim.Native.Nat.{◌≤◌}
use mathlib.Core.Path.{◌≡◌}
use Rattle.ase_read.specs.scaffold.Raw.{block_place}
use Rattle.ase_read.proofs.block_place.Given as goal

abbrev pub invariant-loop-k : goal.invariant-loop-k
invariant-loop-k l = (l._k ≤ l.i) × (l.at ≡ block_place l.file l._k)
