use Rattle.descriptor_raw.proofs.Laws as L
use Rattle.descriptor_raw.proofs.root_head.Goals as goal

pub returns : goal.returns
returns c =
    let a = c.args in
    L.root-sees a.file.now _ _ _ c.class_end.ensures c.opens.ensures
