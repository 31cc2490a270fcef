use Rattle.descriptor_fields.proofs.Exits.{tested-exit}
use mathlib.Core.Path.{sym, ◌∙◌}
use Rattle.descriptor.specs.Reading.{is_array_unit, column}
use Rattle.descriptor_fields.specs.scaffold.Answer.{counted}
use Rattle.descriptor.proofs.Fields.{tested-bad, tested-to}
use Rattle.descriptor_fields.proofs.column_at.Goals as goal

pub returns-in_err-unit : goal.returns-in_err-unit
unfolding column counted
returns-in_err-unit c =
    let a = c.args in
    tested-exit 4 a.file.now a.at is_array_unit 4 _ _ _ _ c.from_residual.ensures.1 c.in_err-unit.ensures

pub returns-then-is_array_unit : goal.returns-then-is_array_unit
unfolding column counted
returns-then-is_array_unit c =
    let a = c.args in
    tested-to 4 a.file.now a.at is_array_unit 4 _ c.in_ok-unit.ensures (sym c.is_array_unit.ensures ∙ c.if-is_array_unit.true) c.counted_at.ensures

pub returns : goal.returns
unfolding column counted
returns c =
    let a = c.args in
    tested-bad 4 a.file.now a.at is_array_unit 4 _ c.in_ok-unit.ensures (sym c.is_array_unit.ensures ∙ c.if-is_array_unit.false)
