use mathlib.Core.Path.{sym, ◌∙◌}
use Rattle.algebra.specs.Reader.{each}
use Rattle.algebra.proofs.Laws.{turn-ok, turn-no, turn_end}
use Rattle.descriptor.specs.Reading.{double}
use Rattle.descriptor.proofs.Fields.{done-unit}
use Rattle.descriptor_entry_judge.proofs.Judging as J
use Rattle.descriptor_entry_judge.proofs.doubles_fault.Goals as goal

pub returns-in-Err : goal.returns-in-Err
returns-in-Err c =
    let l = c.loop-i in
    let a = c.args in
    J.number-of (each a.n 0 (λ j. double) a.text.now a.first) (turn-no (λ j. double) a.text.now _ a.n l.i l.p l.invariant c.loop-i-test.true
    (done-unit _ ∙ sym c.in-Err.ensures))

pub loop-i-preserved : goal.loop-i-preserved
loop-i-preserved c =
    let l = c.loop-i in
    let a = c.args in
    turn-ok (λ j. double) a.text.now _ a.n l.i l.p l.invariant c.loop-i-test.true _ (done-unit _ ∙ sym c.in-Ok.ensures)

pub returns : goal.returns
returns c =
    let l = c.loop-i in
    let a = c.args in
    J.number-of (each a.n 0 (λ j. double) a.text.now a.first) (turn_end (λ j. double) a.text.now _ a.n l.i l.p l.invariant c.loop-i-test.false)
