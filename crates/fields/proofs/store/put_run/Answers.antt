use Prim.Native.Nat.{◌+◌}
use mathlib.Core.Path.{refl, sym, ◌∙◌}
use native.Mathlib.Omega.{arith}
use lib.ListN.{length-set}
use Rattle.algebra.proofs.Stores.{stored-in, stored-out, copy_start, copy-turn, copy-end}
use Rattle.fields.proofs.store.put_run.Goals as goal

pub returns-then-n-k : goal.returns-then-n-k
returns-then-n-k c = sym (stored-out _ _ _ (omega arith))

pub returns-then-n-k-2 : goal.returns-then-n-k-2
returns-then-n-k-2 c = sym (stored-out _ _ _ (omega arith))

pub loop-i-init : goal.loop-i-init
loop-i-init c = (omega arith, copy_start _ c.args.run.now c.args.out.now c.args.at 0 refl, refl)

pub loop-i-preserved : goal.loop-i-preserved
loop-i-preserved c =
    let l = c.loop-i in
    let a = c.args in (
      omega arith,
      copy-turn _ a.run.now l.out a.at l.i l.invariant.1 (omega arith),
      length-set l.out (a.at + l.i) _ ∙ l.invariant.2,
    )

pub shape_of-out : goal.shape_of-out
shape_of-out c = c.loop-i.invariant.2

pub returns : goal.returns
returns c =
    let l = c.loop-i in
    let a = c.args in
    sym (stored-in a.out.now a.at a.run.now (omega arith) ∙ copy-end _ a.run.now l.out a.at l.i l.invariant.1 c.loop-i-test.false)
