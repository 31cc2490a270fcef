use mathlib.Core.Path.{sym, ◌∙◌}
use Rattle.aco_write_judge.proofs.Judging.{space-large, space-is}
use Rattle.aco_write_judge.proofs.judge_space.Goals as goal

pub returns-then-x-gt65535 : goal.returns-then-x-gt65535
returns-then-x-gt65535 c = sym (space-large _ c.if-x-gt65535.true)

pub returns-then-is_known : goal.returns-then-is_known
returns-then-is_known c = sym (space-is _ _ (sym c.if-is_known.true ∙ c.is_known.ensures))

pub returns : goal.returns
returns c = sym (space-is _ _ (sym c.if-is_known.false ∙ c.is_known.ensures))
