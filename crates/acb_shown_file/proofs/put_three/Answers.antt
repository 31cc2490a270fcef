use Rattle.acb_shown_file.proofs.Naming.{three-stored}
use Rattle.acb_shown_file.proofs.put_three.Goals as goal

pub returns : goal.returns
returns c =
    let a = c.args in
    three-stored a.out.now a.a.now a.b.now a.c.now _ _ _ c.requires
    c.put_run.ensures c.put_run-2.ensures c.put_run-3.ensures
