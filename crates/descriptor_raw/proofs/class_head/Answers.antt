use Rattle.descriptor_raw.proofs.Laws as L
use Rattle.descriptor.specs.Reading.{class}
use Rattle.descriptor_raw.proofs.class_head.Goals as goal

pub returns : goal.returns
returns c =
    let a = c.args in
    λ h. L.as-leaf a.file.now a.kind a.v class _ _ c.leaf.ensures h c.class_end.ensures.ends
