use Rattle.fault.proofs.Exit.{told-exit, field-exit, short}
use Rattle.descriptor.proofs.Ends.{accepted, class-past}
use Rattle.algebra.proofs.Laws.{field_next}
use Rattle.descriptor_judge.specs.scaffold.Counting.{walked}
use Rattle.descriptor_judge.proofs.Counting.{walked-no}
use Rattle.descriptor_judge.proofs.Steps.{array-cut, array-no, array-in}
use native.Mathlib.Omega.{arith}
use mathlib.Core.Path.{sym, ap, ◌∙◌}
use Rattle.descriptor_judge.proofs.array.Goals as goal

pub returns-in_err-objects : goal.returns-in_err-objects
returns-in_err-objects c =
    let a = c.args in
    field-exit 4 _ _ _ _ _ c.from_residual.ensures.1 c.in_err-objects.ensures (walked-no (array-cut a.left 0 a.file.now a.at (short 4 _ _ c.in_err-objects.ensures)))

pub array_pairs-requires : goal.array_pairs-requires
array_pairs-requires c =
    let a = c.args in
    let h = field_next 4 a.file.now a.at _ _ c.in_ok-objects.ensures in
    let w = accepted (class-past a.file.now _ (omega arith)) _ _ (sym c.in_ok-pairs.ensures) in
    let p = c.requires in
    omega (arith, w.low, w.high, p.size, p.levels, p.inside)

pub returns-in_err-pairs : goal.returns-in_err-pairs
returns-in_err-pairs c =
    let a = c.args in
    let e = c.in_ok-objects.ensures in
    told-exit _ _ _ c.from_residual-in_err-pairs.ensures.1 (walked-no (array-no a.left 0 a.file.now a.at e (sym c.in_err-pairs.ensures)))

pub returns : goal.returns
returns c =
    let a = c.args in
    let e = c.in_ok-objects.ensures in
    c.array_pairs.ensures ∙ sym (ap walked (array-in a.left 0 a.file.now a.at e (sym c.in_ok-pairs.ensures)))
