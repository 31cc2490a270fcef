use mathlib.Core.Path.{sym, ◌∙◌}
use mathlib.Core.List.{[]}
use Rattle.algebra.proofs.Table.{whole_in, whole_out}
use Rattle.acb.specs.Row.{width, taken}
use Rattle.acb_write_judge.proofs.record_at.Goals as goal

pub returns-then-run-k : goal.returns-then-run-k
returns-then-run-k c = sym (whole_out width taken c.args.run.now (taken []) c.args.k c.if-run-k.true)

pub returns : goal.returns
returns c = c.whole_at.ensures ∙ sym (whole_in width taken c.args.run.now (taken []) c.args.k c.if-run-k.false)
