use mathlib.Core.Path.{ap}
use mathlib.Core.Bool.{Bool, true}
use Rattle.algebra.specs.Reader.{pick}
use Rattle.aco_pass.proofs.Passing.{none-zero, some-zero}
use Rattle.aco_pass.proofs.zero_in.Goals as goal

pub returns-in-Ok : goal.returns-in-Ok
returns-in-Ok c = let a = c.args in ap (λ (x : Bool). pick x true a.zero) (none-zero a.bytes.now a.at a.k c.requires c.in-Ok.ensures)

pub returns-in-Err : goal.returns-in-Err
returns-in-Err c = let a = c.args in ap (λ (x : Bool). pick x true a.zero) (some-zero a.bytes.now a.at a.k c.requires c.in-Err.ensures)
