use mathlib.Core.Path.{◌≡◌}
use Prim.Native.Nat.{◌-◌, ◌≤◌}
use Rattle.algebra.specs.Reader.{done, each}
use Rattle.aco.specs.Reading.{colour}
use lib.ListN.{length}
use Rattle.aco_judge.proofs.colours_at.Given as goal

abbrev pub invariant-loop-i : goal.invariant-loop-i
invariant-loop-i l = (l._i ≤ l.n) × (done (each l.n 0 (λ k. colour) l.file l.at) ≡ done (each (l.n - l._i) l._i (λ k. colour) l.file l.p)) × (l.p ≤ length l.file)
