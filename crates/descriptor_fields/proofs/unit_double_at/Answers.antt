use Rattle.descriptor_fields.proofs.Exits.{tested-exit}
use mathlib.Core.Path.{sym, ◌∙◌}
use Rattle.descriptor.specs.Reading.{is_unit, unit_double}
use Rattle.descriptor.proofs.Fields.{tested-bad, tested-to}
use Rattle.descriptor_fields.proofs.unit_double_at.Goals as goal

pub returns-in_err-unit : goal.returns-in_err-unit
unfolding unit_double
returns-in_err-unit c =
    let a = c.args in
    tested-exit 4 a.file.now a.at is_unit 4 _ _ _ _ c.from_residual.ensures.1 c.in_err-unit.ensures

pub returns-then-is_unit : goal.returns-then-is_unit
unfolding unit_double
returns-then-is_unit c =
    let a = c.args in
    tested-to 4 a.file.now a.at is_unit 4 _ c.in_ok-unit.ensures (sym c.is_unit.ensures ∙ c.if-is_unit.true) c.double_at.ensures

pub returns : goal.returns
unfolding unit_double
returns c =
    let a = c.args in
    tested-bad 4 a.file.now a.at is_unit 4 _ c.in_ok-unit.ensures (sym c.is_unit.ensures ∙ c.if-is_unit.false)
