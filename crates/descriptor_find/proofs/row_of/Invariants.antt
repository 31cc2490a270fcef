use Rattle.descriptor_find.proofs.Children as C
use Rattle.descriptor_find.specs.scaffold.Finding.{Lent}
use Rattle.algebra.specs.Numbers.{nums}
use Prim.Native.Nat.{◌-◌}
use Rattle.descriptor_find.proofs.row_of.Given as goal

abbrev pub invariant-loop-j : goal.invariant-loop-j
invariant-loop-j l =
    (t : Lent l.file l.first l.next l.rows) → C.Walking l.file l.first l.next l.rows t (l.tag, nums 1 l.size l.keys l.body) l.j

abbrev pub decreases-loop-j : goal.decreases-loop-j
decreases-loop-j l =
    l.rows - l.j
