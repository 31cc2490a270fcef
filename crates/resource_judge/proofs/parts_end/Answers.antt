use mathlib.Core.Path.{refl}
use Rattle.algebra.proofs.Sequence.{step-no, step-on}
use Rattle.fault.proofs.Exit.{told-exit, field-exit, short}
use Rattle.resource_judge.proofs.Judging.{length_cut, by_place, ends-even}
use Rattle.resource_judge.proofs.parts_end.Goals as goal

pub returns-in_err-letters : goal.returns-in_err-letters
returns-in_err-letters c =
    let a = c.args in
    field-exit 1 a.file.now a.at _ _ _ c.from_residual.ensures.1 c.in_err-letters.ensures (step-no _ _ (length_cut a.file.now 1 1 a.at c.requires refl (short 1 a.file.now a.at c.in_err-letters.ensures)))

pub returns-in_err-p : goal.returns-in_err-p
returns-in_err-p c =
    let a = c.args in
    told-exit _ _ _ c.from_residual-in_err-p.ensures.1 (step-no _ _ (by_place a.file.now 1 1 a.at c.requires refl c.in_ok-letters.ensures c.in_err-p.ensures))

pub data_end-requires : goal.data_end-requires
data_end-requires c =
    let a = c.args in
    ends-even a.file.now 1 1 a.at c.requires refl (by_place a.file.now 1 1 a.at c.requires refl c.in_ok-letters.ensures c.in_ok-p.ensures)

pub returns : goal.returns
returns c =
    let a = c.args in
    step-on _ _ (by_place a.file.now 1 1 a.at c.requires refl c.in_ok-letters.ensures c.in_ok-p.ensures) c.data_end.ensures
