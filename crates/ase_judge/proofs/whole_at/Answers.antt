use Rattle.ase_judge.proofs.Judging.{verdict-exit, whole-no, whole_open, whole-left, whole-ok}
use Rattle.ase_judge.proofs.whole_at.Goals as goal

pub returns-in_err-passed : goal.returns-in_err-passed
returns-in_err-passed c = let a = c.args in verdict-exit _ _ c.from_residual.ensures.1 (whole-no a.n a.file.now a.at _ _ c.in_err-passed.ensures)

pub returns-then-passed-ne0 : goal.returns-then-passed-ne0
returns-then-passed-ne0 c = let a = c.args in whole_open a.n a.file.now a.at _ _ _ c.in_ok-passed.ensures c.if-passed-ne0.true

pub returns-then-passed-file : goal.returns-then-passed-file
returns-then-passed-file c = let a = c.args in whole-left a.n a.file.now a.at _ _ _ c.in_ok-passed.ensures c.if-passed-ne0.false c.if-passed-file.true

pub returns : goal.returns
returns c = let a = c.args in whole-ok a.n a.file.now a.at _ _ _ c.in_ok-passed.ensures c.if-passed-ne0.false c.if-passed-file.false
