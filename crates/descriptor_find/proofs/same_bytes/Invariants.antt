use Rattle.descriptor_find.specs.Find.{equal_bytes}
use Rattle.algebra.specs.Numbers.{nums}
use mathlib.Core.Path.{◌≡◌}
use Prim.Native.Nat.{◌+◌, ◌-◌}
use Rattle.descriptor_find.proofs.same_bytes.Given as goal

abbrev pub invariant-loop-i : goal.invariant-loop-i
invariant-loop-i l =
    equal_bytes (nums 1 l.size l.file l.start) (nums 1 l.size l.keys l.body) ≡ equal_bytes (nums 1 (l.size - l.i) l.file (l.start + l.i)) (nums 1 (l.size - l.i) l.keys (l.body + l.i))
