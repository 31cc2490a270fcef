use Rattle.descriptor_columns.proofs.Upward as U
use Rattle.descriptor_columns.proofs.fill_parents.Given as goal

abbrev pub invariant-loop-i : goal.invariant-loop-i
invariant-loop-i l = U.Storing l.depth l.i l.initial.parents l.parents
