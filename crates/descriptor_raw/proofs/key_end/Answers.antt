use Rattle.descriptor_raw.proofs.Laws as L
use Rattle.descriptor_raw.proofs.key_end.Goals as goal

pub returns-then-there : goal.returns-then-there
returns-then-there c =
    let a = c.args in
    L.key-some a.file.now a.at _ a.there c.if-there.true c.id_end.ensures

pub returns : goal.returns
returns c =
    let a = c.args in
    L.key-none a.file.now a.at a.there c.if-there.false
