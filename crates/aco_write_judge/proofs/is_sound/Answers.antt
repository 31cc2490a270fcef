use mathlib.Core.Path.{sym, ◌∙◌}
use native.Mathlib.Omega.{arith}
use mathlib.Core.Bool.{true≢false}
use Rattle.aco_write_judge.proofs.Judging.{colour-none}
use Rattle.aco_write_judge.proofs.is_sound.Goals as goal

pub returns-then-given-gt65535 : goal.returns-then-given-gt65535
returns-then-given-gt65535 c = λ e. absurd (true≢false (sym e))

pub returns-then-given-gt65535-2 : goal.returns-then-given-gt65535-2
returns-then-given-gt65535-2 c = λ e. absurd (true≢false (sym e))

pub returns-then-given-gt65535-3 : goal.returns-then-given-gt65535-3
returns-then-given-gt65535-3 c = λ e. absurd (true≢false (sym e))

pub returns-then-given-gt65535-4 : goal.returns-then-given-gt65535-4
returns-then-given-gt65535-4 c = λ e. absurd (true≢false (sym e))

pub returns-then-given-gt65535-5 : goal.returns-then-given-gt65535-5
returns-then-given-gt65535-5 c = λ e. absurd (true≢false (sym e))

pub returns : goal.returns
returns c = λ e. colour-none c.args.given.space c.args.given.samples (omega arith) (sym c.is_sound.ensures ∙ e)
