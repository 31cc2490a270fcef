use mathlib.Core.Path.{◌≡◌}
use Prim.Native.Nat.{◌≤◌}
use Rattle.aco.specs.Places.{entry_place}
use Rattle.aco_read.proofs.entry_place.Given as goal

abbrev pub invariant-loop-k : goal.invariant-loop-k
invariant-loop-k l = (l._k ≤ l.i) × (l.place ≡ entry_place l.file l.n l._k)
