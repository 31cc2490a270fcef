use mathlib.Core.Path.{sym, ◌∙◌}
use native.Mathlib.Omega.{arith}
use Rattle.aco_read.proofs.Filling.{colour_there}
use Rattle.aco_walk.proofs.Stepping.{tested-short, tested-unsound, tested-sound}
use Rattle.aco_walk.proofs.colour_at.Goals as goal

pub returns-then-n-lt10 : goal.returns-then-n-lt10
returns-then-n-lt10 c = tested-short c.args.file.now c.args.at (λ h. omega (arith, c.if-n-lt10.true))

pub returns-then-n-at : goal.returns-then-n-at
returns-then-n-at c = tested-short c.args.file.now c.args.at (λ h. omega (arith, c.if-n-at.true))

pub returns-then-not-is_sound : goal.returns-then-not-is_sound
returns-then-not-is_sound c =
    let a = c.args in
    tested-unsound a.file.now a.at _ (omega arith) (c.colour_at-found.ensures ∙ sym (colour_there a.file.now a.at (omega arith))) (sym c.is_sound.ensures ∙ c.if-not-is_sound.true)

pub returns : goal.returns
returns c =
    let a = c.args in
    tested-sound a.file.now a.at _ (omega arith) (c.colour_at-found.ensures ∙ sym (colour_there a.file.now a.at (omega arith))) (sym c.is_sound.ensures ∙ c.if-not-is_sound.false)
