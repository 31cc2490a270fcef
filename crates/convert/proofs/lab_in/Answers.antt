use mathlib.Core.Path.{refl}
use lib.Ieee.{binary32, of_bits}
use Rattle.colour.specs.declared.model.Model.TheVariants.{Lab}
use Rattle.convert.proofs.Converting.{told-exit, judged-no, judged-yes, given-in}
use Rattle.convert.proofs.lab_in.Goals as goal

pub returns-in_err-judged : goal.returns-in_err-judged
returns-in_err-judged c = told-exit _ _ c.from_residual.ensures.1 (judged-no Lab (of_bits binary32 c.args.bits) _ c.in_err-judged.ensures)

pub returns : goal.returns
returns c = given-in Lab (of_bits binary32 c.args.bits) _ (judged-yes Lab (of_bits binary32 c.args.bits) c.in_ok-judged.ensures) refl
