use native.Mathlib.Omega.{arith}
use Rattle.aco_items.proofs.Steps.{colours-left, colours-over}
use Rattle.aco_items.proofs.colours_of.Goals as goal

pub returns-then-index-count : goal.returns-then-index-count
returns-then-index-count c = let a = c.args in colours-left a.count a.index (omega arith)

pub returns : goal.returns
returns c = let a = c.args in colours-over a.count a.index (omega arith)
