use Rattle.descriptor_raw.proofs.Laws as L
use Rattle.descriptor_raw.proofs.id_end.Goals as goal

pub returns-then-n-eq0 : goal.returns-then-n-eq0
returns-then-n-eq0 c =
    let a = c.args in
    L.id-zero a.file.now a.at _ c.count_at-n.ensures.0 c.if-n-eq0.true

pub returns : goal.returns
returns c =
    let a = c.args in
    L.id-some a.file.now a.at _ c.count_at-n.ensures.0 c.count_at-n.ensures.1 c.if-n-eq0.false
