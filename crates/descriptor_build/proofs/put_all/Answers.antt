use Rattle.descriptor_build.proofs.Built as B
use Rattle.descriptor_build.proofs.put_all.Goals as goal

pub put_first-p-requires : goal.put_first-p-requires
put_first-p-requires c =
    let a = c.args in
    (c.requires.some, B.first-ready a.text.now a.entries.now _ c.requires)

pub put_members-requires : goal.put_members-requires
put_members-requires c =
    let a = c.args in
    B.begun a.text.now a.entries.now _ c.requires a.out.now _ _ c.put_first-p.ensures _ _ c.number_in.ensures c.put_first-p.auto.out

pub returns : goal.returns
returns c =
    let a = c.args in
    B.all-put a.text.now a.entries.now _ c.requires a.out.now _ _ c.put_first-p.ensures _ _ c.number_in.ensures c.put_first-p.auto.out _ c.put_members.ensures
