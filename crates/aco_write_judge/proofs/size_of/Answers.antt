use Prim.Native.Nat.{◌+◌}
use mathlib.Core.Path.{sym, ap}
use native.Mathlib.Omega.{arith}
use Rattle.algebra.specs.Table.{rows}
use Rattle.algebra.proofs.Counted.{counted_start}
use Rattle.algebra.proofs.Writing.{size_fits, size-over}
use Rattle.aco.specs.Row.{RecordRow, width, taken}
use Rattle.aco_writing.specs.Writing.{sizes}
use Rattle.aco_write_judge.proofs.Judging.{given_at, sizes-turn, sizes-end}
use Rattle.aco_write_judge.proofs.size_of.Goals as goal

pub loop-i-init : goal.loop-i-init
loop-i-init c = let a = c.args in (omega arith, omega arith, ap (λ gs. 8 + sizes gs) (sym (counted_start (given_at a.run.now) a.n)))

pub returns-then-total-gt-LIMIT : goal.returns-then-total-gt-LIMIT
returns-then-total-gt-LIMIT c =
    let l = c.loop-i in
    let a = c.args in
    let u = ap (λ (g : RecordRow). g.units) c.whole_at-given.ensures in
    let s = sizes-turn a.run.now a.n l.i c.loop-i-test.true in
    size-over (8 + sizes (rows width taken a.run.now a.n 0)) (omega (arith, u, s, l.invariant.2, c.if-total-gt-LIMIT.true))

pub loop-i-preserved : goal.loop-i-preserved
loop-i-preserved c =
    let l = c.loop-i in
    let a = c.args in
    let u = ap (λ (g : RecordRow). g.units) c.whole_at-given.ensures in
    let s = sizes-turn a.run.now a.n l.i c.loop-i-test.true in
    (omega arith, omega arith, omega (arith, u, s, l.invariant.2))

pub returns : goal.returns
returns c =
    let l = c.loop-i in
    let a = c.args in
    size_fits (8 + sizes (rows width taken a.run.now a.n 0)) l.total (omega (arith, sizes-end a.run.now a.n l.i c.loop-i-test.false, l.invariant.2)) l.invariant.1
