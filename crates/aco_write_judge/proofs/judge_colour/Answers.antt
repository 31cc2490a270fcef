use mathlib.Core.Path.{sym}
use Rattle.aco_write_judge.proofs.judge_colour.Goals as goal

pub returns-then-is_sound : goal.returns-then-is_sound
returns-then-is_sound c = sym (c.is_sound.ensures c.if-is_sound.true)
