use Rattle.descriptor_entry_judge.proofs.Judging as J
use Rattle.descriptor_entry_judge.proofs.fields_size.Goals as goal

pub returns : goal.returns
returns c =
    let a = c.args in
    J.four-sized 0 a.shape a.row.now _ _ _ _ c.field_size.ensures c.field_size-2.ensures c.field_size-3.ensures c.field_size-4.ensures
