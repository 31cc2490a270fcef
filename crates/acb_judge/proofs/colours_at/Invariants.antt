use mathlib.Core.Path.{◌≡◌}
use Prim.Native.Nat.{◌-◌, ◌≤◌}
use Rattle.algebra.specs.Reader.{done, each}
use Rattle.acb.specs.Reading.{colour}
use Rattle.acb_judge.proofs.colours_at.Given as goal

abbrev pub invariant-loop-i : goal.invariant-loop-i
invariant-loop-i l = (l._i ≤ l.count) × (done (each l.count 0 (λ k. colour l.n) l.file l.at) ≡ done (each (l.count - l._i) l._i (λ k. colour l.n) l.file l.p))
