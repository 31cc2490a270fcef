use mathlib.Core.Path.{refl}
use Rattle.fault.proofs.Exit.{field-exit, short}
use Rattle.resource_judge.proofs.Judging.{length_cut, by_place}
use Rattle.resource_judge.proofs.data_end.Goals as goal

pub returns-in_err-size : goal.returns-in_err-size
returns-in_err-size c =
    let a = c.args in
    field-exit 4 a.file.now a.at _ _ _ c.from_residual.ensures.1 c.in_err-size.ensures (length_cut a.file.now 4 0 a.at c.requires refl (short 4 a.file.now a.at c.in_err-size.ensures))

pub returns : goal.returns
returns c = by_place c.args.file.now 4 0 c.args.at c.requires refl c.in_ok-size.ensures c.even_end.ensures
