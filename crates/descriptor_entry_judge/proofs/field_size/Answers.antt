use native.Mathlib.Omega.{arith}
use Rattle.descriptor_entry_judge.proofs.Judging as J
use Rattle.descriptor_entry.specs.declared.Field.TheVariants as f
use Rattle.descriptor_entry_judge.proofs.field_size.Goals as goal

pub returns-in-Nothing : goal.returns-in-Nothing
returns-in-Nothing c =
    let a = c.args in
    J.sized a.row.now a.field f.Nothing c.in-Nothing.is 0 (J.size_none a.row.now) (omega arith)
