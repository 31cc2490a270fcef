use mathlib.Core.Path.{refl}
use native.Mathlib.Omega.{arith}
use Rattle.descriptor_entry_judge.proofs.Heads as H
use Rattle.descriptor_entry_judge.proofs.judge_head.Goals as goal

pub returns-then-size-gt-LIMIT : goal.returns-then-size-gt-LIMIT
returns-then-size-gt-LIMIT c =
    let a = c.args in
    H.judges-head a.text.now a.row.now a.what a.objects _ _ _ _ _ _ _ _ _ c.number_in.ensures c.shape_of-shape.ensures c.key_size.ensures c.fields_size.ensures c.members_in-count.ensures c.unwrap_or-below.ensures c.number_in-arity.ensures refl (λ h. absurd (omega (arith, h, c.if-size-gt-LIMIT.true)))

pub returns : goal.returns
returns c =
    let a = c.args in
    H.judges-head a.text.now a.row.now a.what a.objects _ _ _ _ _ _ _ _ _ c.number_in.ensures c.shape_of-shape.ensures c.key_size.ensures c.fields_size.ensures c.members_in-count.ensures c.unwrap_or-below.ensures c.number_in-arity.ensures refl (λ h. c.head_fault-sound.ensures)
