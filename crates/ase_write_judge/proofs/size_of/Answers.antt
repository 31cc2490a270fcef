use Rattle.algebra.proofs.Counted.{counted_start}
use Rattle.ase_write_judge.proofs.Judging.{sizes-turn, sizes-end}
use Rattle.algebra.proofs.Writing.{size_fits, size-over}
use mathlib.Core.Path.{sym, ap, ◌∙◌}
use native.Mathlib.Omega.{arith}
use Rattle.algebra.specs.Table.{row_at, rows}
use Rattle.ase.specs.Row.{width, taken}
use Rattle.ase_writing.specs.Writing.{size_within, sizes}
use Prim.Native.Nat.{◌+◌}
use Rattle.ase_write_judge.proofs.size_of.Goals as goal

pub loop-i-init : goal.loop-i-init
loop-i-init c = let a = c.args in (omega arith, omega arith, ap (λ gs. 12 + sizes gs) (sym (counted_start _ a.n)))

pub returns-then-total-gt-LIMIT : goal.returns-then-total-gt-LIMIT
returns-then-total-gt-LIMIT c =
    let l = c.loop-i in
    let a = c.args in
    let e = c.size_in-total.ensures.0 ∙ ap (λ g. size_within g) c.whole_at.ensures in
    size-over (12 + sizes (rows width taken a.run.now a.n 0)) (omega (arith, e, sizes-turn (λ i. taken (row_at width a.run.now i)) a.n l.i c.loop-i-test.true, l.invariant.2, c.if-total-gt-LIMIT.true))

pub loop-i-preserved : goal.loop-i-preserved
loop-i-preserved c =
    let l = c.loop-i in
    let a = c.args in
    let e = c.size_in-total.ensures.0 ∙ ap (λ g. size_within g) c.whole_at.ensures in
    (omega arith, omega arith, omega (arith, e, sizes-turn (λ i. taken (row_at width a.run.now i)) a.n l.i c.loop-i-test.true, l.invariant.2))

pub returns : goal.returns
returns c =
    let l = c.loop-i in
    let a = c.args in
    size_fits (12 + sizes (rows width taken a.run.now a.n 0)) l.total (omega (arith, sizes-end (λ i. taken (row_at width a.run.now i)) a.n l.i c.loop-i-test.false, l.invariant.2)) l.invariant.1
