use mathlib.Core.Path.{sym, ◌∙◌}
use Rattle.fault.proofs.Exit.{told-exit}
use Rattle.aco_judge.proofs.Judging.{headed-refused, headed-is}
use Rattle.aco_judge.proofs.heading_at.Goals as goal

pub returns-in_err-count : goal.returns-in_err-count
returns-in_err-count c = told-exit _ _ _ c.from_residual.ensures.1 (sym (headed-refused _ _ _ (sym c.in_err-count.ensures)))

pub returns : goal.returns
returns c = c.number_at.ensures ∙ sym (headed-is _ _ _ (sym c.in_ok-count.ensures))
