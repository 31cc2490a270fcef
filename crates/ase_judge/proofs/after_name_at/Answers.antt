use mathlib.Core.Path.{sym, ◌∙◌}
use Rattle.fault.proofs.Exit.{told-exit, field-exit, short}
use Rattle.ase_judge.proofs.Judging.{after-name-short, after-name-unknown, after-name-channels}
use Rattle.ase_judge.proofs.after_name_at.Goals as goal

pub returns-in_err-tag : goal.returns-in_err-tag
returns-in_err-tag c =
    let a = c.args in
    field-exit 4 a.file.now a.at _ _ _ c.from_residual.ensures.1 c.in_err-tag.ensures (sym (after-name-short _ _ (short 4 a.file.now a.at c.in_err-tag.ensures)))

pub returns-in_default : goal.returns-in_default
returns-in_default c = sym (after-name-unknown _ _ _ _ c.in_ok-tag.ensures (sym c.from_tag.ensures ∙ c.in_default.is))

pub returns-in_err-end : goal.returns-in_err-end
returns-in_err-end c =
    told-exit _ _ _ c.from_residual-in_err-end.ensures.1
    (sym (after-name-channels _ _ _ _ c.in_ok-tag.ensures _ (sym c.from_tag.ensures ∙ c.in-Some.is) c.traits.ensures c.is_wide.ensures c.in_err-end.ensures))

pub returns : goal.returns
returns c =
    c.type_at.ensures ∙ sym (after-name-channels _ _ _ _ c.in_ok-tag.ensures _ (sym c.from_tag.ensures ∙ c.in-Some.is) c.traits.ensures c.is_wide.ensures c.in_ok-end.ensures)
