use mathlib.Core.Path.{◌≡◌}
use Prim.Native.Nat.{◌-◌, ◌≤◌}
use Rattle.algebra.specs.Reader.{done, each}
use Rattle.descriptor.specs.Reading.{double}
use Rattle.descriptor_fields.proofs.doubles_at.Given as goal

abbrev pub invariant-loop-i : goal.invariant-loop-i
invariant-loop-i l = (l._i ≤ l.n) × (done (each l.n 0 (λ j. double) l.file l.at) ≡ done (each (l.n - l._i) l._i (λ j. double) l.file l.p))
