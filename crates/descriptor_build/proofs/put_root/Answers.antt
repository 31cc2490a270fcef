use Rattle.descriptor_build.proofs.Puts as P
use Rattle.descriptor_build.proofs.put_root.Goals as goal

pub put_word-p-requires : goal.put_word-p-requires
put_word-p-requires c =
    let a = c.args in
    P.root-word a.text.now a.row.now _ c.requires

pub put_fields-requires : goal.put_fields-requires
put_fields-requires c =
    let a = c.args in
    P.root-fields a.text.now a.row.now _ c.root_shape.ensures _ c.requires _ _ c.put_word-p.ensures.1 c.put_word-p.auto.out

pub returns : goal.returns
returns c =
    let a = c.args in
    P.root-stored a.text.now a.row.now _ c.root_shape.ensures _ c.requires a.out.now _ _ c.put_word-p.ensures.0 c.put_word-p.ensures.1 _ _ c.put_fields.ensures
