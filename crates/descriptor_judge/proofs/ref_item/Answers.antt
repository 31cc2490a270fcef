use Rattle.fault.proofs.Exit.{field-exit, short}
use Rattle.descriptor_fields.specs.scaffold.Answer.{known, reader_of}
use Rattle.descriptor.specs.Reading.{ref_value}
use Rattle.descriptor_judge.specs.scaffold.Counting.{walked, single}
use Rattle.descriptor_judge.proofs.Counting.{walked-no, walked-plain, told-row}
use Rattle.descriptor_judge.proofs.Steps.{ref-deep, ref-short, ref-unknown, ref-is}
use mathlib.Core.Path.{sym, ap, ◌∙◌}
use Prim.Native.Nat.{◌-◌}
use Rattle.descriptor_judge.proofs.ref_item.Goals as goal

pub returns-then-left-eq0 : goal.returns-then-left-eq0
returns-then-left-eq0 c =
    let a = c.args in
    walked-no (ref-deep 0 0 a.file.now a.at a.left c.if-left-eq0.true)

pub returns-in_err-kind : goal.returns-in_err-kind
returns-in_err-kind c =
    let a = c.args in
    field-exit 4 _ _ _ _ _ c.from_residual.ensures.1 c.in_err-kind.ensures (walked-no (ref-short 0 0 a.file.now a.at a.left c.if-left-eq0.false (short 4 _ _ c.in_err-kind.ensures)))

pub returns-in_default : goal.returns-in_default
returns-in_default c =
    let a = c.args in
    walked-no (ref-unknown 0 0 a.file.now a.at a.left _ _ c.if-left-eq0.false c.in_ok-kind.ensures (sym c.form_of.ensures ∙ ap known c.in_default.is))

pub returns : goal.returns
returns c =
    let a = c.args in
    let r = reader_of c.in-Some.form in
    told-row _ ∙ ap single c.ref_value_at.ensures
    ∙ walked-plain _ (a.left - 1) 0 a.at _ (ref_value r a.file.now _)
    ∙ sym (ap walked (ref-is 0 0 a.file.now a.at a.left _ _ r c.if-left-eq0.false c.in_ok-kind.ensures (sym c.form_of.ensures ∙ ap known c.in-Some.is)))
