use mathlib.Core.Path.{ap, ◌∙◌}
use native.Mathlib.Omega.{arith}
use Rattle.resource_write_judge.proofs.Judging.{sizes-turn, sizes-end, sizes-start}
use Rattle.resource_writing.specs.Writing.{size_within, sizes}
use Rattle.resource_write_judge.specs.scaffold.Writing.{givens}
use Rattle.algebra.proofs.Writing.{size_fits, size-over}
use Rattle.resource_write_judge.proofs.size_of.Goals as goal

pub loop-i-init : goal.loop-i-init
loop-i-init c =
    let a = c.args in
    (omega arith, omega arith, omega (arith, sizes-start a.run.now a.n))

pub size_in-total-requires : goal.size_in-total-requires
size_in-total-requires c = c.whole_at.ensures.1

pub overflow_add-total : goal.overflow_add-total
overflow_add-total c =
    let l = c.loop-i in
    let w = c.whole_at.ensures in
    omega (arith, l.invariant.1, c.size_in-total.ensures, w.1.0, w.1.1)

pub returns-then-total-gt-LIMIT : goal.returns-then-total-gt-LIMIT
returns-then-total-gt-LIMIT c =
    let l = c.loop-i in
    let a = c.args in
    let w = c.whole_at.ensures in
    let e = c.size_in-total.ensures ∙ ap (λ g. size_within g) w.0 in
    size-over (sizes (givens a.run.now a.n 0)) (omega (arith, e, sizes-turn a.run.now a.n l.i c.loop-i-test.true, l.invariant.2, c.if-total-gt-LIMIT.true))

pub loop-i-preserved : goal.loop-i-preserved
loop-i-preserved c =
    let l = c.loop-i in
    let a = c.args in
    let w = c.whole_at.ensures in
    let e = c.size_in-total.ensures ∙ ap (λ g. size_within g) w.0 in
    (omega (arith, c.loop-i-test.true), omega (arith, c.if-total-gt-LIMIT.false), omega (arith, e, sizes-turn a.run.now a.n l.i c.loop-i-test.true, l.invariant.2))

pub returns : goal.returns
returns c =
    let l = c.loop-i in
    let a = c.args in
    size_fits (sizes (givens a.run.now a.n 0)) l.total (omega (arith, sizes-end a.run.now a.n l.i c.loop-i-test.false, l.invariant.2)) l.invariant.1
