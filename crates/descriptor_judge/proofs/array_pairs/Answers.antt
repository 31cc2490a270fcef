use Rattle.fault.proofs.Exit.{told-exit, field-exit, short}
use Rattle.descriptor.specs.Reading.{array_pair}
use Rattle.descriptor.proofs.Tiling.{reach, array-rows}
use Rattle.algebra.proofs.Laws.{field_next}
use Rattle.descriptor_judge.specs.scaffold.Counting.{walked}
use Rattle.descriptor_judge.proofs.Alike.{alike-array}
use Rattle.descriptor_judge.proofs.Counting.{walked-no, going_start, turn, turn-no, all-single}
use Rattle.descriptor_judge.proofs.Steps.{children-short, children-is}
use native.Mathlib.Omega.{arith}
use mathlib.Core.Path.{refl, sym, ap, ◌∙◌}
use Rattle.descriptor_judge.proofs.array_pairs.Goals as goal

pub returns-in_err-n : goal.returns-in_err-n
returns-in_err-n c =
    let a = c.args in
    field-exit 4 _ _ _ _ _ c.from_residual.ensures.1 c.in_err-n.ensures (walked-no (children-short (array_pair a.objects a.left 0) 0 a.file.now a.at (short 4 _ _ c.in_err-n.ensures)))

pub loop-i-init : goal.loop-i-init
loop-i-init c =
    let a = c.args in
    let h = field_next 4 a.file.now a.at _ _ c.in_ok-n.ensures in
    going_start (array_pair a.objects a.left 0) a.file.now _ _ (omega arith)

pub returns-in_err-next : goal.returns-in_err-next
returns-in_err-next c =
    let a = c.args in
    let e = c.in_ok-n.ensures in
    told-exit _ _ _ c.from_residual-in_err-next.ensures.1 (turn-no (array_pair a.objects a.left 0) a.file.now _ _ c.loop-i.invariant (alike-array a.file.now a.objects a.left 0 0) c.loop-i-test.true c.in_err-next.ensures _ _ refl
    ∙ sym (ap walked (children-is (array_pair a.objects a.left 0) 0 a.file.now a.at _ _ e)))

pub loop-i-preserved : goal.loop-i-preserved
loop-i-preserved c =
    let a = c.args in
    let g = c.loop-i.invariant in
    turn (array_pair a.objects a.left 0) a.file.now _ _ g (alike-array a.file.now a.objects a.left 0 0) c.loop-i-test.true c.in_ok-next.ensures (reach a.file.now (array-rows a.file.now a.objects a.left 0 0 _ (omega (arith, c.requires.levels)) g.inside)) _ _ refl

pub returns : goal.returns
returns c =
    let a = c.args in
    let e = c.in_ok-n.ensures in
    all-single (array_pair a.objects a.left 0) a.file.now _ _ c.loop-i.invariant c.loop-i-test.false
    ∙ sym (ap walked (children-is (array_pair a.objects a.left 0) 0 a.file.now a.at _ _ e))
