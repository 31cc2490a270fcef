use mathlib.Core.Path.{refl, ap, ◌∙◌}
use native.Mathlib.Omega.{arith}
use Rattle.resource_write_judge.proofs.Judging.{record_at, judged-exit, some-number}
use Rattle.resource_writing.specs.Writing.{record_fault}
use Rattle.algebra.proofs.Counted.{faults-start, faults-found, faults-more, faults-end}
use Rattle.resource_write_judge.proofs.judge_records.Goals as goal

pub loop-i-init : goal.loop-i-init
loop-i-init c =
    let a = c.args in
    (omega arith, faults-start (record_fault a.text.now) (record_at a.run.now) a.n)

pub returns-in_err-judge_record : goal.returns-in_err-judge_record
returns-in_err-judge_record c =
    let l = c.loop-i in
    let a = c.args in
    let e = c.in_err-judge_record.ensures ∙ ap (record_fault a.text.now) c.whole_at.ensures.0 in
    judged-exit _ _ c.from_residual.ensures.1 (faults-found (record_fault a.text.now) (record_at a.run.now) _ a.n l.i l.invariant.1 c.loop-i-test.true _ e (some-number _))

pub loop-i-preserved : goal.loop-i-preserved
loop-i-preserved c =
    let l = c.loop-i in
    let a = c.args in
    let e = c.in_ok-judge_record.ensures ∙ ap (record_fault a.text.now) c.whole_at.ensures.0 in
    (omega arith, faults-more (record_fault a.text.now) (record_at a.run.now) _ a.n l.i l.invariant.1 c.loop-i-test.true _ e refl)

pub returns : goal.returns
returns c =
    let l = c.loop-i in
    let a = c.args in
    faults-end (record_fault a.text.now) (record_at a.run.now) _ a.n l.i l.invariant.1 c.loop-i-test.false
