use Prim.Native.Nat.{◌≤◌}
use Rattle.aco_pass.specs.scaffold.Parts.{Sounds}
use Rattle.aco_pass.proofs.sound_in.Given as goal

abbrev pub invariant-loop-k : goal.invariant-loop-k
invariant-loop-k l = (l.k ≤ l.n) × Sounds l.k l.bytes l.at
