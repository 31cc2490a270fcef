use Rattle.descriptor_raw.proofs.Laws as L
use Rattle.descriptor_raw.proofs.array_head.Goals as goal

pub returns : goal.returns
returns c =
    let a = c.args in
    λ n h. L.as-array a.file.now a.kind a.v _ _ a.objects _ n c.opens.ensures h c.class_end.ensures
