use Rattle.aco_pass.proofs.Passing.{Recorded}
use Rattle.aco_pass.proofs.pass_records.Given as goal

abbrev pub invariant-loop-i : goal.invariant-loop-i
invariant-loop-i l = Recorded l.start l.bytes l.count l.index l.at l.store l.i l.p
