use Rattle.descriptor_raw.proofs.Laws as L
use Rattle.descriptor.specs.Reading.{unicode}
use Rattle.descriptor_raw.proofs.text_head.Goals as goal

pub returns : goal.returns
returns c =
    let a = c.args in
    λ h. L.as-leaf a.file.now a.kind a.v unicode _ _ c.leaf.ensures h c.text_end.ensures.ends
