use mathlib.Core.Path.{◌≡◌}
use lib.ListN.{drop}
use Rattle.algebra.specs.Faults.{faults}
use Rattle.acb_writing.specs.Writing.{byte_fault}
use Rattle.acb_write_judge.proofs.judge_bytes.Given as goal

abbrev pub invariant-loop-x : goal.invariant-loop-x
invariant-loop-x l = faults byte_fault l.numbers ≡ faults byte_fault (drop l.x-index l.numbers)
