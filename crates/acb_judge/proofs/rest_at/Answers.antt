use mathlib.Core.Path.{sym, ap, ◌∙◌}
use native.Mathlib.Omega.{arith}
use Rattle.algebra.specs.Table.{verdict}
use Rattle.acb_judge.specs.Answer.{reported}
use Rattle.acb_judge.proofs.Judging.{rest-no, rest-on, components-most, told-refused}
use Rattle.acb_judge.proofs.rest_at.Goals as goal

pub colours_at-requires : goal.colours_at-requires
colours_at-requires c = let x = c.args.header.space in omega (arith, c.components_of.ensures, components-most x)

pub returns-in_err-end : goal.returns-in_err-end
returns-in_err-end c =
    told-refused _ _ c.from_residual.ensures.1
    (sym (ap (verdict (reported _ _ _)) (rest-no _ _ _ _ c.components_of.ensures c.in_err-end.ensures)))

pub returns-in_err-tag : goal.returns-in_err-tag
returns-in_err-tag c =
    told-refused _ _ c.from_residual-in_err-tag.ensures.1
    (sym (ap (verdict (reported _ _ _)) (rest-on _ _ _ _ c.components_of.ensures c.in_ok-end.ensures ∙ sym c.in_err-tag.ensures)))

pub returns : goal.returns
returns c =
    sym (ap (verdict (reported _ _ _)) (rest-on _ _ _ _ c.components_of.ensures c.in_ok-end.ensures ∙ sym c.in_ok-tag.ensures))
