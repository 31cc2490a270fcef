use mathlib.Core.Path.{ap, ◌∙◌}
use native.Mathlib.Omega.{arith}
use Rattle.conversion.specs.Tray.{converted_in_order, to_bits_of}
use Rattle.conversion.specs.Convert.{Converted}
use Rattle.tray.proofs.Laws.{lent-filled, lent-short, lent-refused, length-results, told-exit}
use Rattle.tray.proofs.there.to_channels.Goals as goal

pub judge-requires : goal.judge-requires
judge-requires c = tt

pub returns-then-out-samples : goal.returns-then-out-samples
returns-then-out-samples c = let a = c.args in let j = c.in_ok-judge.ensures in lent-short a.out.now (converted_in_order (to_bits_of a.space) 0 a.samples.now) j (omega (arith, length-results (to_bits_of a.space) 0 a.samples.now j))

pub fill-requires : goal.fill-requires
fill-requires c = let a = c.args in (c.in_ok-judge.ensures, omega arith)

pub returns-in_err-judge : goal.returns-in_err-judge
returns-in_err-judge c = let a = c.args in ap (λ (t : Converted Unit). (t, a.out.now)) (told-exit _ _ c.from_residual.ensures.1) ∙ lent-refused a.out.now (converted_in_order (to_bits_of a.space) 0 a.samples.now) _ _ c.in_err-judge.ensures

pub returns : goal.returns
returns c = let a = c.args in let j = c.in_ok-judge.ensures in lent-filled a.out.now (converted_in_order (to_bits_of a.space) 0 a.samples.now) _ j (omega (arith, length-results (to_bits_of a.space) 0 a.samples.now j)) c.fill.ensures
