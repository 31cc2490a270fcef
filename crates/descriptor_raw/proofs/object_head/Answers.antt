use Rattle.descriptor_raw.proofs.Laws as L
use Rattle.descriptor_raw.proofs.object_head.Goals as goal

pub returns : goal.returns
returns c =
    let a = c.args in
    λ h. L.as-object a.file.now a.kind a.v _ _ _ c.opens.ensures h c.class_end.ensures
