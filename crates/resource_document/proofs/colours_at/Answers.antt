use mathlib.Core.Path.{sym, ◌∙◌}
use Rattle.algebra.proofs.Sequence.{step-no, step-on}
use Rattle.fault.proofs.Exit.{told-exit}
use Rattle.resource_document.proofs.Finding.{colours-done}
use Rattle.resource_document.proofs.colours_at.Goals as goal

pub returns-in_err-size : goal.returns-in_err-size
returns-in_err-size c =
    let a = c.args in
    told-exit _ _ _ c.from_residual.ensures.1 (step-no _ _ c.in_err-size.ensures ∙ sym (colours-done a.file.now a.at))

pub returns : goal.returns
returns c =
    let a = c.args in
    step-on _ _ c.in_ok-size.ensures c.run_at.ensures ∙ sym (colours-done a.file.now a.at)
