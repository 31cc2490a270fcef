use Rattle.descriptor_find.specs.Find.{equal_bytes}
use Rattle.algebra.specs.Numbers.{nums}
use mathlib.Core.Path.{◌≡◌}
use Prim.Native.Nat.{◌+◌, ◌-◌, ◌*◌}
use Rattle.descriptor_find.proofs.same_words.Given as goal

abbrev pub invariant-loop-i : goal.invariant-loop-i
invariant-loop-i l =
    equal_bytes (nums 1 (8 * l.words) l.file l.start) (nums 1 (8 * l.words) l.keys l.body) ≡ equal_bytes (nums 1 (8 * (l.words - l.i)) l.file (l.start + 8 * l.i)) (nums 1 (8 * (l.words - l.i)) l.keys (l.body + 8 * l.i))
