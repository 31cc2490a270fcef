use mathlib.Core.Path.{◌∙◌}
use Rattle.ase_judge.proofs.Judging.{verdict-exit, too_long, bad-heading, after-heading}
use Rattle.ase_judge.proofs.judge.Goals as goal

pub returns-then-file-gt-LIMIT : goal.returns-then-file-gt-LIMIT
returns-then-file-gt-LIMIT c = too_long _ c.if-file-gt-LIMIT.true

pub returns-in_err-n : goal.returns-in_err-n
returns-in_err-n c = verdict-exit _ _ c.from_residual.ensures.1 (bad-heading _ c.if-file-gt-LIMIT.false _ _ c.in_err-n.ensures)

pub returns : goal.returns
returns c = c.whole_at.ensures ∙ after-heading _ c.if-file-gt-LIMIT.false _ _ c.in_ok-n.ensures
