use Prim.Native.Nat.{◌+◌, ◌*◌, ◌-◌}
use mathlib.Core.List.{[], ◌∷◌}
use Rattle.algebra.specs.Table.{rows}
use Rattle.descriptor_heads.specs.Heads.{pairs, settled}
use Rattle.descriptor_entry.specs.Pieces.{bytes}
use Rattle.descriptor_entry.specs.Shapes.{width}
use Rattle.descriptor_entry.specs.Entries.{member_pieces}
use Rattle.descriptor_build.proofs.Loops as W
use Rattle.descriptor_build.proofs.put_members.Given as goal

abbrev pub invariant-loop-left : goal.invariant-loop-left
invariant-loop-left l =
    W.Loop l.text l.entries l.n l.initial.out (bytes l.text (member_pieces (rows width (λ row. row) l.entries (l.n - 1) 1) (settled ((pairs, l.count) ∷ [])))) l.start l.out l.saved l.d (W.lv l.what l.objects l.left) l.p l.k

abbrev pub decreases-loop-left : goal.decreases-loop-left
decreases-loop-left l =
    2 * (l.n - l.k) + l.d
