use mathlib.Core.Path.{◌∙◌}
use native.Mathlib.Omega.{arith}
use Rattle.descriptor_build.proofs.Puts as P
use Rattle.descriptor_build.proofs.put_wide.Goals as goal

pub returns : goal.returns
returns c =
    let a = c.args in
    let one = c.put_word-p.ensures in
    let two = c.put_word.ensures in
    (P.wide-put a.out.now _ _ a.at a.high a.low _ (omega arith) one.0 one.1 two.0, two.1 ∙ omega (arith, one.1))
