use Rattle.descriptor_build.proofs.Puts as P
use Rattle.descriptor_build.proofs.put_fields.Goals as goal

pub put_field-p-requires : goal.put_field-p-requires
put_field-p-requires c =
    let a = c.args in
    P.fields-first a.text.now a.shape a.row.now a.at _ c.requires

pub put_field-q-requires : goal.put_field-q-requires
put_field-q-requires c =
    let a = c.args in
    P.fields-second a.text.now a.shape a.row.now a.at _ c.requires _ _ _ _ c.put_field-p.ensures c.put_field-p.auto.out

pub put_field-r-requires : goal.put_field-r-requires
put_field-r-requires c =
    let a = c.args in
    P.fields-third a.text.now a.shape a.row.now a.at _ c.requires _ _ _ _ c.put_field-p.ensures c.put_field-p.auto.out _ _ _ c.put_field-q.ensures c.put_field-q.auto.out

pub put_field-requires : goal.put_field-requires
put_field-requires c =
    let a = c.args in
    P.fields-fourth a.text.now a.shape a.row.now a.at _ c.requires _ _ _ _ c.put_field-p.ensures c.put_field-p.auto.out _ _ _ c.put_field-q.ensures c.put_field-q.auto.out _ _ _ c.put_field-r.ensures c.put_field-r.auto.out

pub returns : goal.returns
returns c =
    let a = c.args in
    P.fields-stored a.text.now a.shape a.row.now a.at _ c.requires _ _ _ _ c.put_field-p.ensures c.put_field-p.auto.out _ _ _ c.put_field-q.ensures c.put_field-q.auto.out _ _ _ c.put_field-r.ensures c.put_field-r.auto.out _ _ c.put_field.ensures
