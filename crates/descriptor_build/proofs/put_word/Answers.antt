use mathlib.Core.Path.{refl}
use Rattle.descriptor_build.proofs.Puts as P
use Rattle.descriptor_build.proofs.put_word.Goals as goal

pub returns : goal.returns
returns c =
    let a = c.args in
    (P.word-put a.out.now _ a.at a.v c.requires c.put_number.ensures, refl)
