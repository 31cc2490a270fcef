use Rattle.descriptor_columns.proofs.Upward as U
use Rattle.descriptor_columns.proofs.parent_of.Given as goal

abbrev pub invariant-loop-j : goal.invariant-loop-j
invariant-loop-j l = U.Rising l.depth l.i l.own l.j

abbrev pub decreases-loop-j : goal.decreases-loop-j
decreases-loop-j l = l.j
