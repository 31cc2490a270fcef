use native.Mathlib.Omega.{arith}
use Rattle.descriptor_build.proofs.Puts as P
use Rattle.algebra.specs.Store.{part}
use Rattle.descriptor_build.proofs.put_counted.Goals as goal

pub returns : goal.returns
returns c =
    let a = c.args in
    (P.counted-put a.out.now _ _ a.at a.v _ (part a.text.now a.first a.n) a.n c.part_of.ensures c.requires.1 c.requires.0 c.put_number.ensures c.put_run.ensures, omega arith)
