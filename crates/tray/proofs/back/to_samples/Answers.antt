use mathlib.Core.Path.{ap, ◌∙◌}
use native.Mathlib.Omega.{arith}
use Rattle.conversion.specs.Convert.{to_sample}
use Rattle.conversion.specs.Tray.{converted_in_order}
use Rattle.conversion.specs.Convert.{Converted}
use Rattle.tray.proofs.Laws.{lent-filled, lent-short, lent-refused, length-results, told-exit}
use Rattle.tray.proofs.back.to_samples.Goals as goal

pub returns-then-out-bits : goal.returns-then-out-bits
returns-then-out-bits c = let a = c.args in let j = c.in_ok-judge.ensures in lent-short a.out.now (converted_in_order (to_sample a.tag) 0 a.bits.now) j (omega (arith, length-results (to_sample a.tag) 0 a.bits.now j))

pub fill-requires : goal.fill-requires
fill-requires c = let a = c.args in (c.in_ok-judge.ensures, omega arith)

pub returns-in_err-judge : goal.returns-in_err-judge
returns-in_err-judge c = let a = c.args in ap (λ (t : Converted Unit). (t, a.out.now)) (told-exit _ _ c.from_residual.ensures.1) ∙ lent-refused a.out.now (converted_in_order (to_sample a.tag) 0 a.bits.now) _ _ c.in_err-judge.ensures

pub returns : goal.returns
returns c = let a = c.args in let j = c.in_ok-judge.ensures in lent-filled a.out.now (converted_in_order (to_sample a.tag) 0 a.bits.now) _ j (omega (arith, length-results (to_sample a.tag) 0 a.bits.now j)) c.fill.ensures
