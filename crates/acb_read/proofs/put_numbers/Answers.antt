use borrow.Author.Rules.{rules}
use Prim.Native.Nat.{◌+◌}
use mathlib.Core.Path.{◌≡◌, refl, sym, ◌∙◌}
use native.Mathlib.Omega.{arith}
use lib.ListN.{length, length-set}
use Rattle.algebra.proofs.Stores.{copy_start, copy-turn, copy-end}
use Rattle.acb_read.proofs.put_numbers.Goals as goal

pub loop-i-init : goal.loop-i-init
loop-i-init c = (omega arith, copy_start _ c.args.row c.args.table.now c.args.to 0 refl, refl)

pub loop-i-preserved : goal.loop-i-preserved
loop-i-preserved c =
    let l = c.loop-i in
    let a = c.args in
    let thirteen : length c.args.row ≡ 13 = search rules in (
      omega arith,
      copy-turn _ a.row l.table a.to l.i l.invariant.1 (omega (arith, thirteen)),
      length-set l.table (a.to + l.i) _ ∙ l.invariant.2,
    )

pub shape_of-table : goal.shape_of-table
shape_of-table c = c.loop-i.invariant.2

pub returns : goal.returns
returns c =
    let l = c.loop-i in
    let a = c.args in
    let thirteen : length c.args.row ≡ 13 = search rules in
    sym (copy-end _ a.row l.table a.to l.i l.invariant.1 (omega (arith, thirteen, c.loop-i-test.false)))
