use mathlib.Core.Path.{sym, ap, ◌∙◌}
use Prim.Native.Nat.{ℕ}
use Rattle.algebra.specs.Reader.{Res, done, then}
use Rattle.fault.proofs.Exit.{told-exit}
use Rattle.ase_judge.specs.scaffold.Parts.{after_name}
use Rattle.ase_judge.proofs.Judging.{colour-content-done}
use Rattle.ase_judge.proofs.colour_content_at.Goals as goal

pub returns-in_err-next : goal.returns-in_err-next
returns-in_err-next c =
    let a = c.args in
    told-exit _ _ _ c.from_residual.ensures.1 (ap (λ (m : Res (ℕ × ℕ)). then (done m) (λ u q. after_name a.file.now q)) c.in_err-next.ensures ∙ sym (colour-content-done a.file.now a.at))

pub returns : goal.returns
returns c =
    let a = c.args in
    c.after_name_at.ensures ∙ ap (λ (m : Res (ℕ × ℕ)). then (done m) (λ u q. after_name a.file.now q)) c.in_ok-next.ensures ∙ sym (colour-content-done a.file.now a.at)
