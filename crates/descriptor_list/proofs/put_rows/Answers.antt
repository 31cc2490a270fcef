use mathlib.Core.Path.{refl, sym}
use native.Mathlib.Omega.{arith}
use borrow.Author.Rules.{rules}
use Rattle.descriptor_list.proofs.Listed.{row-turn, rows_end}
use Rattle.descriptor_list.proofs.put_rows.Goals as goal

pub loop-i-init : goal.loop-i-init
loop-i-init c =
    (omega arith, refl, λ rs h. refl)

pub loop-i-preserved : goal.loop-i-preserved
loop-i-preserved c =
    let l = c.loop-i in
    (omega arith, search rules, λ rs h. row-turn rs h _ (l.out, l.at) l.i c.loop-i-test.true (l.invariant.2 rs h) c.put_row-at.ensures)

pub returns : goal.returns
returns c =
    λ rs h.
    let l = c.loop-i in
    sym (rows_end rs h _ (l.out, l.at) l.i c.loop-i-test.false (l.invariant.2 rs h))
