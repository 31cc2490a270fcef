use Rattle.descriptor_find.proofs.Keys as K
use Rattle.descriptor_find.specs.scaffold.Finding.{rows_in, Keyed}
use Rattle.descriptor_find.specs.Find.{row_of}
use Rattle.descriptor.specs.Reading.{descriptor}
use lib.ListN.{length}
use Prim.Native.Nat.{◌-◌}
use Rattle.descriptor_find.proofs.answer_all.Given as goal

abbrev pub invariant-loop-at : goal.invariant-loop-at
invariant-loop-at l =
    (g : Keyed l.keys (length l.initial.answers)) → K.Filling l.keys l.initial.answers l.answers (row_of l.file (rows_in (descriptor l.file))) g.ks l.at l.i

abbrev pub decreases-loop-at : goal.decreases-loop-at
decreases-loop-at l =
    length l.keys - l.at
