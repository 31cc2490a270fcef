use mathlib.Core.Path.{ap, ◌∙◌}
use lib.Ieee.{binary32, of_bits}
use Rattle.colour.specs.declared.model.Model.TheVariants.{Cmyk}
use Prim.Native.Nat.{ℕ, ◌-◌}
use Rattle.conversion.specs.Convert.{gives}
use Rattle.convert.proofs.Converting.{told-exit, judged-no, judged-yes, given-in, unit-sample}
use Rattle.convert.proofs.cmyk_in.Goals as goal

pub returns-in_err-judged : goal.returns-in_err-judged
returns-in_err-judged c = told-exit _ _ c.from_residual.ensures.1 (judged-no Cmyk (of_bits binary32 c.args.bits) _ c.in_err-judged.ensures)

pub returns : goal.returns
returns c = given-in Cmyk (of_bits binary32 c.args.bits) _ (judged-yes Cmyk (of_bits binary32 c.args.bits) c.in_ok-judged.ensures) (ap (λ (s : ℕ). gives (65535 - s)) (c.rgb_sample.ensures ∙ unit-sample _ c.args.bits c.ranges.bits.fits (judged-yes Cmyk (of_bits binary32 c.args.bits) c.in_ok-judged.ensures)))
