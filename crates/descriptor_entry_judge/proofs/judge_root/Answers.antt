use mathlib.Core.Path.{refl}
use native.Mathlib.Omega.{arith}
use Rattle.descriptor_entry_judge.proofs.Heads as H
use Rattle.descriptor_entry_judge.proofs.judge_root.Goals as goal

pub returns-then-size-gt-LIMIT : goal.returns-then-size-gt-LIMIT
returns-then-size-gt-LIMIT c =
    let a = c.args in
    H.judges-root a.text.now a.row.now _ _ _ _ _ _ c.root_shape-shape.ensures c.fields_size-size.ensures c.number_in-count.ensures c.number_in-arity.ensures refl (λ h. absurd (omega (arith, h, c.if-size-gt-LIMIT.true)))

pub returns : goal.returns
returns c =
    let a = c.args in
    H.judges-root a.text.now a.row.now _ _ _ _ _ _ c.root_shape-shape.ensures c.fields_size-size.ensures c.number_in-count.ensures c.number_in-arity.ensures refl (λ h. c.root_fault-sound.ensures)
