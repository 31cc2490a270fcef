use Rattle.descriptor_raw.proofs.Laws as L
use Rattle.descriptor_raw.proofs.text_end.Goals as goal

pub returns : goal.returns
returns c =
    let a = c.args in
    L.text-ends a.file.now a.at _ c.count_at.ensures.0 c.count_at.ensures.1
