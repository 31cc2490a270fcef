use mathlib.Core.Path.{◌≡◌}
use Prim.Native.Nat.{◌-◌}
use Rattle.algebra.specs.Reader.{done, each}
use Rattle.descriptor.specs.Reading.{double}
use Rattle.descriptor_entry_judge.proofs.doubles_fault.Given as goal

abbrev pub invariant-loop-i : goal.invariant-loop-i
invariant-loop-i l = done (each l.fn.n 0 (λ j. double) l.text l.fn.first) ≡ done (each (l.fn.n - l.i) l.i (λ j. double) l.text l.p)
