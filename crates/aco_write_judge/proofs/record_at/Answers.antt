use mathlib.Core.Path.{sym, ◌∙◌}
use native.Mathlib.Omega.{arith}
use Rattle.algebra.proofs.Table.{whole_in, whole_out}
use Rattle.aco.specs.Row.{width, taken, empty_record}
use Rattle.aco_write_judge.proofs.record_at.Goals as goal

pub returns-then-run-k : goal.returns-then-run-k
returns-then-run-k c = let a = c.args in sym (whole_out width taken a.run.now empty_record a.k c.if-run-k.true)

pub whole_at-requires : goal.whole_at-requires
whole_at-requires c = omega arith

pub returns : goal.returns
returns c = let a = c.args in c.whole_at.ensures ∙ sym (whole_in width taken a.run.now empty_record a.k c.if-run-k.false)
