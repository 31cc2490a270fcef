use mathlib.Core.Path.{ap}
use Prim.Native.Nat.{ℕ}
use Rattle.conversion.specs.Convert.{Converted, gives, and_then}
use Rattle.tray.proofs.back.judge_first.Goals as goal

pub returns-in-Ok : goal.returns-in-Ok
returns-in-Ok c = ap (λ (x : Converted ℕ). and_then {B = Unit} x (λ y. gives tt)) (c.in-Ok.ensures)

pub returns-in-Err : goal.returns-in-Err
returns-in-Err c = ap (λ (x : Converted ℕ). and_then {B = Unit} x (λ y. gives tt)) (c.in-Err.ensures)
