use Prim.Native.Nat.{◌+◌}
use mathlib.Core.Path.{refl, ◌∙◌}
use native.Mathlib.Omega.{arith}
use lib.ListN.{length-set}
use Rattle.acb_write.proofs.Puts.{bytes-start, bytes-turn, bytes-end}
use Rattle.acb_write.proofs.put_bytes.Goals as goal

pub loop-i-init : goal.loop-i-init
loop-i-init c = let a = c.args in (omega arith, bytes-start _ a.out.now a.numbers.now a.at 0 refl, refl)

pub loop-i-preserved : goal.loop-i-preserved
loop-i-preserved c =
    let l = c.loop-i in
    let a = c.args in
    (omega arith, bytes-turn _ l.out a.numbers.now a.at l.i l.invariant.1 c.loop-i-test.true, length-set l.out (a.at + l.i) _ ∙ l.invariant.2)

pub returns : goal.returns
returns c =
    let l = c.loop-i in
    let a = c.args in
    bytes-end _ l.out a.numbers.now a.at l.i l.invariant.1 c.loop-i-test.false
