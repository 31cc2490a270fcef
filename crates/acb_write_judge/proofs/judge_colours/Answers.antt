use Rattle.algebra.proofs.Counted.{faults-start, faults-found, faults-more, faults-end}
use mathlib.Core.Path.{refl, ap, ◌∙◌}
use native.Mathlib.Omega.{arith}
use Rattle.acb_writing.specs.Writing.{colour_fault}
use Rattle.acb_write_judge.specs.scaffold.Parts.{given_at}
use Rattle.acb_write_judge.proofs.Judging.{fault-exit, some}
use Rattle.acb_write_judge.proofs.judge_colours.Goals as goal

pub loop-i-init : goal.loop-i-init
loop-i-init c = let a = c.args in (omega arith, faults-start (colour_fault a.text.now a.n) (given_at a.run.now) a.count)

pub returns-in_err-judge_colour : goal.returns-in_err-judge_colour
returns-in_err-judge_colour c =
    let l = c.loop-i in
    let a = c.args in
    let e = c.in_err-judge_colour in
    let f = colour_fault a.text.now a.n in
    fault-exit _ _ c.from_residual.ensures.1 (faults-found f (given_at a.run.now) _ a.count l.i l.invariant.1 c.loop-i-test.true _ (e.ensures ∙ ap f c.whole_at.ensures) (some e.field-0.0))

pub loop-i-preserved : goal.loop-i-preserved
loop-i-preserved c =
    let l = c.loop-i in
    let a = c.args in
    let f = colour_fault a.text.now a.n in
    (omega arith, faults-more f (given_at a.run.now) _ a.count l.i l.invariant.1 c.loop-i-test.true 0 (c.in_ok-judge_colour.ensures ∙ ap f c.whole_at.ensures) refl)

pub returns : goal.returns
returns c = let a = c.args in let l = c.loop-i in faults-end (colour_fault a.text.now a.n) (given_at a.run.now) _ a.count l.i l.invariant.1 c.loop-i-test.false
