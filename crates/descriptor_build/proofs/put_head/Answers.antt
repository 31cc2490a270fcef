use Rattle.descriptor_build.proofs.Puts as P
use Rattle.descriptor_build.proofs.put_head.Goals as goal

pub put_key-p-requires : goal.put_key-p-requires
put_key-p-requires c =
    let a = c.args in
    P.head-key a.text.now a.what a.row.now _ _ c.number_in-kind.ensures c.shape_of-shape.ensures a.at _ c.requires

pub put_word-q-requires : goal.put_word-q-requires
put_word-q-requires c =
    let a = c.args in
    P.head-word a.text.now a.what a.row.now _ _ c.number_in-kind.ensures c.shape_of-shape.ensures a.at _ c.requires _ _ _ _ c.put_key-p.ensures c.put_key-p.auto.out

pub put_fields-end-requires : goal.put_fields-end-requires
put_fields-end-requires c =
    let a = c.args in
    P.head-fields a.text.now a.what a.row.now _ _ c.number_in-kind.ensures c.shape_of-shape.ensures a.at _ c.requires _ _ _ _ c.put_key-p.ensures c.put_key-p.auto.out _ _ _ c.put_word-q.ensures.0 c.put_word-q.ensures.1 c.put_word-q.auto.out

pub returns : goal.returns
returns c =
    let a = c.args in
    P.head-put a.text.now a.what a.row.now _ _ c.number_in-kind.ensures c.shape_of-shape.ensures a.at _ c.requires _ _ _ _ c.put_key-p.ensures c.put_key-p.auto.out _ _ _ c.put_word-q.ensures.0 c.put_word-q.ensures.1 c.put_word-q.auto.out _ _ _ _ _ c.put_fields-end.ensures c.unwrap_or-below.ensures c.number_in-objects.ensures c.members_in-count.ensures
