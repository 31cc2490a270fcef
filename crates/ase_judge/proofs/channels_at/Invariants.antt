use mathlib.Core.Path.{◌≡◌}
use Prim.Native.Nat.{◌-◌, ◌≤◌}
use Rattle.algebra.specs.Reader.{done, each, judged}
use Rattle.ase_judge.specs.scaffold.Parts.{channel_in}
use Rattle.ase_judge.proofs.channels_at.Given as goal

abbrev pub invariant-loop-i : goal.invariant-loop-i
invariant-loop-i l = (l._i ≤ l.n) × (done (each l.n 0 (λ j. judged 4 (channel_in l.wide)) l.file l.at) ≡ done (each (l.n - l._i) l._i (λ j. judged 4 (channel_in l.wide)) l.file l.p))
