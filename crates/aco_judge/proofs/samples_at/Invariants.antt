use mathlib.Core.Path.{◌≡◌}
use Prim.Native.Nat.{◌-◌, ◌≤◌}
use Rattle.algebra.specs.Reader.{done, each, judged}
use Rattle.aco.specs.Reading.{samples, sample}
use Rattle.aco_judge.proofs.samples_at.Given as goal

abbrev pub invariant-loop-k : goal.invariant-loop-k
invariant-loop-k l = (l.k ≤ 4) × (done (samples l.space l.file l.at) ≡ done (each (4 - l.k) l.k (λ j. judged 2 (sample l.space j)) l.file l.p))
