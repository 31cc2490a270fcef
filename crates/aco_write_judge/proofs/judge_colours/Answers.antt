use mathlib.Core.Path.{refl, ap, ◌∙◌}
use native.Mathlib.Omega.{arith}
use Rattle.algebra.proofs.Counted.{faults-start, faults-more, faults-end}
use Rattle.aco_write_judge.specs.scaffold.Parts.{colour_fault}
use Rattle.aco_write_judge.proofs.Judging.{given_at, turn-exit}
use Rattle.aco_write_judge.proofs.judge_colours.Goals as goal

pub loop-i-init : goal.loop-i-init
loop-i-init c = let a = c.args in (omega arith, faults-start colour_fault (given_at a.run.now) a.n)

pub returns-in_err-judge_colour : goal.returns-in_err-judge_colour
returns-in_err-judge_colour c =
    let l = c.loop-i in
    let a = c.args in
    turn-exit _ _ c.from_residual.ensures.1 colour_fault (given_at a.run.now) _ a.n l.i l.invariant.1 c.loop-i-test.true (c.in_err-judge_colour.ensures ∙ ap colour_fault c.whole_at.ensures)

pub loop-i-preserved : goal.loop-i-preserved
loop-i-preserved c =
    let l = c.loop-i in
    let a = c.args in
    let e = c.in_ok-judge_colour.ensures ∙ ap colour_fault c.whole_at.ensures in
    (omega arith, faults-more colour_fault (given_at a.run.now) _ a.n l.i l.invariant.1 c.loop-i-test.true 0 e refl)

pub returns : goal.returns
returns c =
    let l = c.loop-i in
    let a = c.args in
    faults-end colour_fault (given_at a.run.now) _ a.n l.i l.invariant.1 c.loop-i-test.false
