use Rattle.fault.proofs.Exit.{told-exit}
use mathlib.Core.Path.{sym, ◌∙◌}
use native.Mathlib.Omega.{arith}
use Rattle.algebra.proofs.Laws.{turn-start, turn-ok, turn-no, turn_end}
use Rattle.descriptor.specs.Reading.{double}
use Rattle.descriptor.proofs.Fields.{done-unit}
use Rattle.descriptor_fields.proofs.doubles_at.Goals as goal

pub loop-i-init : goal.loop-i-init
loop-i-init c = (omega arith, turn-start (λ j. double) c.args.file.now c.args.n c.args.at)

pub returns-in_err-p : goal.returns-in_err-p
returns-in_err-p c =
    let l = c.loop-i in
    let a = c.args in
    told-exit _ _ _ c.from_residual.ensures.1 (sym (turn-no (λ j. double) a.file.now _ a.n l._i l.p l.invariant.1 c.loop-i-test.true
    (done-unit _ ∙ sym c.in_err-p.ensures)))

pub loop-i-preserved : goal.loop-i-preserved
loop-i-preserved c =
    let l = c.loop-i in
    let a = c.args in (
      omega arith,
      turn-ok (λ j. double) a.file.now _ a.n l._i l.p l.invariant.1 c.loop-i-test.true _
          (done-unit _ ∙ sym c.in_ok-p.ensures),
    )

pub returns : goal.returns
returns c =
    let l = c.loop-i in
    let a = c.args in
    sym (turn_end (λ j. double) a.file.now _ a.n l._i l.p l.invariant.1 c.loop-i-test.false)
