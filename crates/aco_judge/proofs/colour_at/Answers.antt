use mathlib.Core.Path.{sym}
use native.Mathlib.Omega.{arith}
use Rattle.aco_judge.proofs.colour_at.Goals as goal

pub overflow_add-result : goal.overflow_add-result
overflow_add-result c = let h = (c.is_sound.ensures c.if-is_sound.true).0 in omega arith

pub returns-then-is_sound : goal.returns-then-is_sound
returns-then-is_sound c = sym (c.is_sound.ensures c.if-is_sound.true).1

pub returns : goal.returns
returns c = c.fields_at.ensures
