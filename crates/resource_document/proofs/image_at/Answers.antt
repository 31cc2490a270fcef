use mathlib.Core.Path.{sym, ◌∙◌}
use Rattle.algebra.proofs.Sequence.{step-no, step-on}
use Rattle.fault.proofs.Exit.{told-exit}
use Rattle.resource_document.proofs.Finding.{image-done}
use Rattle.resource_document.proofs.image_at.Goals as goal

pub returns-in_err-height : goal.returns-in_err-height
returns-in_err-height c =
    let a = c.args in
    told-exit _ _ _ c.from_residual.ensures.1 (step-no _ _ c.in_err-height.ensures ∙ sym (image-done a.file.now a.at))

pub returns-in_err-width : goal.returns-in_err-width
returns-in_err-width c =
    let a = c.args in
    told-exit _ _ _ c.from_residual-in_err-width.ensures.1 (step-on _ _ c.in_ok-height.ensures (step-no _ _ c.in_err-width.ensures) ∙ sym (image-done a.file.now a.at))

pub returns-in_err-depth : goal.returns-in_err-depth
returns-in_err-depth c =
    let a = c.args in
    told-exit _ _ _ c.from_residual-in_err-depth.ensures.1 (step-on _ _ c.in_ok-height.ensures (step-on _ _ c.in_ok-width.ensures (step-no _ _ c.in_err-depth.ensures)) ∙ sym (image-done a.file.now a.at))

pub returns-in_err-mode : goal.returns-in_err-mode
returns-in_err-mode c =
    let a = c.args in
    told-exit _ _ _ c.from_residual-in_err-mode.ensures.1 (step-on _ _ c.in_ok-height.ensures (step-on _ _ c.in_ok-width.ensures (step-on _ _ c.in_ok-depth.ensures (step-no _ _ c.in_err-mode.ensures))) ∙ sym (image-done a.file.now a.at))

pub returns : goal.returns
returns c =
    let a = c.args in
    step-on _ _ c.in_ok-height.ensures (step-on _ _ c.in_ok-width.ensures (step-on _ _ c.in_ok-depth.ensures (step-on _ _ c.in_ok-mode.ensures c.run_at-5.ensures))) ∙ sym (image-done a.file.now a.at)
