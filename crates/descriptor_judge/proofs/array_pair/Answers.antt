use Rattle.fault.proofs.Exit.{told-exit, field-exit, short}
use Rattle.descriptor.specs.Reading.{column}
use Rattle.descriptor_judge.specs.scaffold.Counting.{walked, single}
use Rattle.descriptor_judge.proofs.Counting.{walked-no, walked-plain, told-row}
use Rattle.descriptor_judge.proofs.Steps.{array-deep, array-id, array-short, array-other, array-is}
use mathlib.Core.Path.{sym, ap, ◌∙◌}
use Prim.Native.Nat.{◌-◌}
use Rattle.descriptor_judge.proofs.array_pair.Goals as goal

pub returns-then-left-eq0 : goal.returns-then-left-eq0
returns-then-left-eq0 c =
    let a = c.args in
    walked-no (array-deep 0 0 a.file.now a.at a.objects a.left c.if-left-eq0.true)

pub returns-in_err-kind : goal.returns-in_err-kind
returns-in_err-kind c =
    let a = c.args in
    let i = sym c.in_ok-key.ensures in
    field-exit 4 _ _ _ _ _ c.from_residual-in_err-kind.ensures.1 c.in_err-kind.ensures (walked-no (array-short 0 0 a.file.now a.at a.objects a.left _ c.if-left-eq0.false i (short 4 _ _ c.in_err-kind.ensures)))

pub returns-then-kind-ne-COLUMN : goal.returns-then-kind-ne-COLUMN
returns-then-kind-ne-COLUMN c =
    let a = c.args in
    let i = sym c.in_ok-key.ensures in
    walked-no (array-other 0 0 a.file.now a.at a.objects a.left _ _ _ c.if-left-eq0.false i c.in_ok-kind.ensures c.if-kind-ne-COLUMN.true)

pub returns-in_err-key : goal.returns-in_err-key
returns-in_err-key c =
    let a = c.args in
    told-exit _ _ _ c.from_residual.ensures.1 (walked-no (array-id 0 0 a.file.now a.at a.objects a.left c.if-left-eq0.false (sym c.in_err-key.ensures)))

pub returns : goal.returns
returns c =
    let a = c.args in
    let i = sym c.in_ok-key.ensures in
    told-row _ ∙ ap single c.column_at.ensures
    ∙ walked-plain _ (a.left - 1) 0 a.at _ (column a.objects a.file.now _)
    ∙ sym (ap walked (array-is 0 0 a.file.now a.at a.objects a.left _ _ _ c.if-left-eq0.false i c.in_ok-kind.ensures c.if-kind-ne-COLUMN.false))
