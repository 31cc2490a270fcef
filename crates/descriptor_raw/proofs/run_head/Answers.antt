use Rattle.descriptor_raw.proofs.Laws as L
use Rattle.descriptor.specs.Reading.{raw_bytes}
use Rattle.descriptor_raw.proofs.run_head.Goals as goal

pub returns : goal.returns
returns c =
    let a = c.args in
    λ h. L.as-leaf a.file.now a.kind a.v raw_bytes _ _ c.leaf.ensures h c.run_end.ensures.ends
