use native.Mathlib.Omega.{arith}
use Rattle.resource_write.proofs.Puts.{head-put}
use lib.ListN.{length-set}
use Rattle.resource_write.proofs.put_head.Goals as goal

pub shape_of-out : goal.shape_of-out
shape_of-out c = simp length-set (omega (arith, c.put_number-2.auto.out, c.put_number.auto.out))

pub returns : goal.returns
returns c =
    let a = c.args in
    head-put a.out.now _ _ a.at a.id a.letters c.requires.0 c.requires.2 c.put_number.ensures c.put_number-2.ensures
