use Rattle.fault.proofs.Exit.{field-exit, short}
use Rattle.resource_judge.proofs.Judging.{even-pad, pad-short, pad-bad, pad-ok}
use Rattle.resource_judge.proofs.pad_at.Goals as goal

pub returns-then-n-eq0 : goal.returns-then-n-eq0
returns-then-n-eq0 c = even-pad _ _ _ c.if-n-eq0.true

pub returns-in_err-v : goal.returns-in_err-v
returns-in_err-v c =
    let a = c.args in
    field-exit 1 a.file.now a.at _ _ _ c.from_residual.ensures.1 c.in_err-v.ensures (pad-short _ _ _ c.if-n-eq0.false (short 1 a.file.now a.at c.in_err-v.ensures))

pub returns-then-v-ne0 : goal.returns-then-v-ne0
returns-then-v-ne0 c = pad-bad _ _ _ c.if-n-eq0.false c.in_ok-v.ensures c.if-v-ne0.true

pub returns : goal.returns
returns c = pad-ok _ _ _ c.if-n-eq0.false c.in_ok-v.ensures c.if-v-ne0.false
