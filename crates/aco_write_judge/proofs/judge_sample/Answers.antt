use native.Mathlib.Omega.{arith}
use mathlib.Core.Path.{sym, ◌∙◌}
use Rattle.aco_write_judge.proofs.Judging.{sample-large, sample-is}
use Rattle.aco_write_judge.proofs.judge_sample.Goals as goal

pub returns-then-v-gt65535 : goal.returns-then-v-gt65535
returns-then-v-gt65535 c = sym (sample-large _ _ _ (omega arith))

pub returns-then-is_allowed : goal.returns-then-is_allowed
returns-then-is_allowed c = sym (sample-is _ _ _ _ (sym c.if-is_allowed.true ∙ c.is_allowed.ensures))

pub returns : goal.returns
returns c = sym (sample-is _ _ _ _ (sym c.if-is_allowed.false ∙ c.is_allowed.ensures))
