use Rattle.acb.proofs.Laws.{components-some}
use Rattle.acb_write_judge.proofs.Judging.{toned, sizes-start, sizes-turn, sizes-end}
use Rattle.algebra.proofs.Writing.{size_fits, size-over}
use mathlib.Core.Path.{ap, ◌∙◌}
use native.Mathlib.Omega.{arith}
use Prim.Native.Nat.{ℕ, ◌+◌}
use Rattle.acb_judge.specs.Answer.{told_header}
use Rattle.acb_write_judge.specs.Answer.{told_ending}
use Rattle.acb_writing.specs.Writing.{sizes, string_size, size_within, size}
use Rattle.algebra.specs.Table.{rows}
use Rattle.acb.specs.Row.{RecordRow, width, taken}
use Rattle.acb_write_judge.proofs.size_of.Goals as goal

pub overflow_add-behind_name : goal.overflow_add-behind_name
overflow_add-behind_name c = omega (arith, c.components_of-behind_name.ensures, (components-some c.args.header.space).1)

pub returns-then-total-gt-LIMIT : goal.returns-then-total-gt-LIMIT
returns-then-total-gt-LIMIT c = let a = c.args in
    size-over (size (told_header a.header) (told_ending a.ending) (rows width taken a.run.now a.n 0)) (omega (arith, c.head_size.ensures.0, c.ending_size.ensures.0, c.if-total-gt-LIMIT.true))

pub loop-i-init : goal.loop-i-init
loop-i-init c = let a = c.args in
    (omega arith, omega arith, omega (arith, sizes-start a.run.now (toned (6 + c.components_of-behind_name.result)) a.n))

pub overflow_add-total-in-loop-i : goal.overflow_add-total-in-loop-i
overflow_add-total-in-loop-i c = omega (arith, c.components_of-behind_name.ensures, (components-some c.args.header.space).1, c.string_size.ensures.1)

pub overflow_add-total-in-loop-i-2 : goal.overflow_add-total-in-loop-i-2
overflow_add-total-in-loop-i-2 c = omega (arith, c.components_of-behind_name.ensures, (components-some c.args.header.space).1, c.string_size.ensures.1, c.loop-i.invariant.1)

pub returns-then-total-gt-LIMIT-2 : goal.returns-then-total-gt-LIMIT-2
returns-then-total-gt-LIMIT-2 c = let l = c.loop-i in
    let a = c.args in
    let m = c.components_of-behind_name in
    let gs = rows width taken a.run.now a.n 0 in
    let z = ap (λ (j : ℕ). sizes (size_within j) gs) m.ensures in
    let e = c.string_size.ensures.0 ∙ ap (λ (g : RecordRow). string_size g.name) c.whole_at.ensures in
    let t = sizes-turn a.run.now (toned (6 + m.result)) a.n l.i c.loop-i-test.true in
    size-over (size (told_header a.header) (told_ending a.ending) gs) (omega (arith, e, t, z, l.invariant.2, c.head_size.ensures.0, c.ending_size.ensures.0, c.if-total-gt-LIMIT-2.true))

pub loop-i-preserved : goal.loop-i-preserved
loop-i-preserved c = let l = c.loop-i in
    let a = c.args in
    let m = c.components_of-behind_name in
    let e = c.string_size.ensures.0 ∙ ap (λ (g : RecordRow). string_size g.name) c.whole_at.ensures in
    let t = sizes-turn a.run.now (toned (6 + m.result)) a.n l.i c.loop-i-test.true in
    (omega arith, omega arith, omega (arith, e, t, l.invariant.2))

pub returns : goal.returns
returns c = let l = c.loop-i in
    let a = c.args in
    let m = c.components_of-behind_name in
    let gs = rows width taken a.run.now a.n 0 in
    let z = ap (λ (j : ℕ). sizes (size_within j) gs) m.ensures in
    let t = sizes-end a.run.now (toned (6 + m.result)) a.n l.i c.loop-i-test.false in
    size_fits (size (told_header a.header) (told_ending a.ending) gs) l.total (omega (arith, t, z, l.invariant.2, c.head_size.ensures.0, c.ending_size.ensures.0)) l.invariant.1
