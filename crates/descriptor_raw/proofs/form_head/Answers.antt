use Rattle.descriptor_raw.proofs.Laws as L
use Rattle.descriptor_raw.proofs.form_head.Goals as goal

pub returns-in-Some : goal.returns-in-Some
returns-in-Some c =
    let a = c.args in
    L.as-form a.file.now a.at _ _ _ _ _ _ c.in-Some.form _ c.number_or_zero-kind.ensures c.class_end-class.ensures c.form_of.ensures c.in-Some.is c.form_end.ensures c.leaf.ensures

pub returns-in-None : goal.returns-in-None
returns-in-None c =
    let a = c.args in
    L.no-form a.file.now a.at _ _ _ _ c.number_or_zero-kind.ensures c.form_of.ensures c.in-None.is c.leaf-in-None.ensures
