use mathlib.Core.Path.{refl}
use Rattle.descriptor_raw.proofs.Laws as L
use Rattle.descriptor_raw.proofs.column_head.Goals as goal

pub returns : goal.returns
returns c =
    let a = c.args in
    L.as-column a.file.now a.objects a.at _ _ _ _ c.id_end-value.ensures refl c.leaf.ensures
