use native.Mathlib.Omega.{arith}
use Rattle.aco_items.proofs.Steps.{entries-left, entries_over}
use Rattle.aco_items.proofs.entries_of.Goals as goal

pub returns-then-index-count : goal.returns-then-index-count
returns-then-index-count c = let a = c.args in entries-left a.count a.index (omega arith)

pub returns : goal.returns
returns c = let a = c.args in entries_over a.count a.index (omega arith)
