use mathlib.Core.Path.{refl, sym, ap, ◌∙◌}
use native.Mathlib.Omega.{arith}
use Rattle.ase.specs.Row.{RecordRow}
use Rattle.walk.specs.Walk.{Call}
use Rattle.ase_walk.specs.Answer.{call_and_place}
use Rattle.ase_walk.proofs.Stepping.{passes_on, ends-here}
use Rattle.ase_walk.proofs.step_at.Goals as goal

pub loop-p-init : goal.loop-p-init
loop-p-init c = refl

pub returns-in-Some : goal.returns-in-Some
returns-in-Some c =
    let b = c.block_at-step in
    let g = c.in-Some.ensures in
    ap (λ (x : Call RecordRow). (x, b.result.next)) g.1 ∙ ends-here c.args.file.now c.loop-p.p _ _ g.0 b.ensures ∙ sym (ap call_and_place c.loop-p.invariant)

pub loop-p-smaller : goal.loop-p-smaller
loop-p-smaller c =
    let b = c.block_at-step in
    let m = passes_on c.args.file.now c.loop-p.p _ _ c.in-None.ensures b.ensures in
    omega (arith, m.1, m.2)

pub loop-p-preserved : goal.loop-p-preserved
loop-p-preserved c =
    let b = c.block_at-step in
    let m = passes_on c.args.file.now c.loop-p.p _ _ c.in-None.ensures b.ensures in
    c.loop-p.invariant ∙ m.0

pub ended_at-requires : goal.ended_at-requires
ended_at-requires c = omega (arith, c.loop-p-test.false)

pub returns : goal.returns
returns c = c.ended_at.ensures ∙ sym (ap call_and_place c.loop-p.invariant)
