use Rattle.descriptor_raw.proofs.Laws as L
use Rattle.descriptor.specs.Reading.{enumerated}
use Rattle.descriptor_raw.proofs.enumerated_head.Goals as goal

pub returns : goal.returns
returns c =
    let a = c.args in
    λ h. L.as-leaf a.file.now a.kind a.v enumerated _ _ c.leaf.ensures h c.enumerated_end.ensures.ends
