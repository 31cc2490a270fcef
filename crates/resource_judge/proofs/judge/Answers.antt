use mathlib.Core.Path.{sym, ap, ◌∙◌}
use Rattle.resource_judge.proofs.Judging.{too_long, not-long}
use native.Mathlib.Omega.{arith}
use lib.ListN.{length}
use Rattle.algebra.specs.Table.{verdict}
use Rattle.resource_judge.proofs.judge.Goals as goal

pub returns-then-file-gt-LIMIT : goal.returns-then-file-gt-LIMIT
returns-then-file-gt-LIMIT c = too_long _ c.if-file-gt-LIMIT.true

pub returns : goal.returns
returns c = c.blocks_in.ensures ∙ ap (verdict length) (sym (not-long _ (omega (arith, c.if-file-gt-LIMIT.false))))
