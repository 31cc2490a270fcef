use Prim.Native.Nat.{◌*◌, ◌≤◌}
use mathlib.Core.Path.{◌≡◌}
use Rattle.aco_chunks.specs.Chunks.{loaded, entry_head}
use Rattle.aco_items.proofs.Fields.{title_left}
use Rattle.aco_items.proofs.entry_of.Given as goal

abbrev pub invariant-loop-f : goal.invariant-loop-f
invariant-loop-f l = (l.f ≤ 5) × (l.first ≡ 10 * l.index) × (entry_head l.index (loaded l.store (10 * l.index)) l.bytes 0 ≡ title_left l.index (loaded l.store (10 * l.index)) l.f l.bytes l.p)
