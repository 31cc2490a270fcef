use mathlib.Core.Path.{◌∙◌}
use Rattle.acb_judge.proofs.Judging.{too_long, bad-header, good-header, told-refused}
use Rattle.acb_judge.proofs.judge.Goals as goal

pub returns-then-file-gt-LIMIT : goal.returns-then-file-gt-LIMIT
returns-then-file-gt-LIMIT c = too_long _ c.if-file-gt-LIMIT.true

pub returns-in_err-header : goal.returns-in_err-header
returns-in_err-header c =
    told-refused _ _ c.from_residual.ensures.1 (bad-header _ c.if-file-gt-LIMIT.false _ _ c.in_err-header.ensures)

pub returns : goal.returns
returns c =
    c.rest_at.ensures ∙ good-header _ c.if-file-gt-LIMIT.false _ _ _ c.in_ok-header.ensures
