use mathlib.Core.Path.{sym, ◌∙◌}
use Rattle.resource_write_judge.proofs.Judging.{record-none, record-whole}
use Rattle.resource_write_judge.proofs.record_at.Goals as goal

pub returns-then-run-k : goal.returns-then-run-k
returns-then-run-k c = record-none c.args.run.now c.args.k c.if-run-k.true

pub returns : goal.returns
returns c = c.whole_at.ensures.0 ∙ sym (record-whole c.args.run.now c.args.k c.if-run-k.false)
