use mathlib.Core.Path.{ap}
use lib.Ieee.{Float}
use Rattle.colour.specs.declared.channel.Channels.TheVariants.{Gray}
use Rattle.conversion.specs.Convert.{Converted, gives, and_then}
use Rattle.convert.proofs.Converting.{told-exit}
use Rattle.convert.proofs.gray_of.Goals as goal

pub returns : goal.returns
returns c = ap (λ (x : Converted Float). and_then x (λ y. gives (Gray y))) c.in_ok-x.ensures

pub returns-in_err-x : goal.returns-in_err-x
returns-in_err-x c = told-exit _ _ c.from_residual.ensures.1 (ap (λ (x : Converted Float). and_then x (λ y. gives (Gray y))) c.in_err-x.ensures)
