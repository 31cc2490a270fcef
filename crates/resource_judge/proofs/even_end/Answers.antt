use mathlib.Core.Path.{sym, ◌∙◌}
use Rattle.algebra.proofs.Sequence.{step-no, step-on}
use Rattle.fault.proofs.Exit.{told-exit}
use Rattle.resource_judge.proofs.Judging.{followed-done, ends_at}
use Rattle.resource_judge.proofs.even_end.Goals as goal

pub returns-in_err-q : goal.returns-in_err-q
returns-in_err-q c =
    let a = c.args in
    told-exit _ _ _ c.from_residual.ensures.1 (step-no _ _ c.in_err-q.ensures ∙ sym (followed-done a.file.now a.at a.n a.at))

pub returns : goal.returns
returns c =
    let a = c.args in
    step-on _ _ c.in_ok-q.ensures (ends_at a.file.now a.n a.at c.in_ok-q.ensures c.pad_at.ensures) ∙ sym (followed-done a.file.now a.at a.n a.at)
