use Rattle.std.proofs.Common.{sym, arith}
use Rattle.algebra.proofs.Inverse.{field-inv}
use Rattle.acb_names.proofs.Units.{units_missing, units-is}
use Rattle.acb_names.proofs.units_at.Goals as goal

pub returns-in_default : goal.returns-in_default
returns-in_default c = (sym (units_missing c.args.file.now c.args.at c.in_default.ensures), λ h. absurd (omega arith))

pub overflow_sub-file : goal.overflow_sub-file
overflow_sub-file c = let x = field-inv 4 c.args.file.now c.args.at (sym c.in-Ok.ensures) in omega (arith, x.0, x.2)

pub returns : goal.returns
returns c =
    let x = field-inv 4 c.args.file.now c.args.at (sym c.in-Ok.ensures) in
    (units-is c.args.file.now c.args.at (omega (arith, x.0)) c.min.result (omega (arith, c.min.ensures, x.1, x.2)), λ h. omega (arith, c.min.ensures, x.0, x.2))
