use borrow.Author.Rules.{sfits_of}
use borrow.Author.Tests.{eq-eqb, ne_eqb}
use mathlib.Core.Path.{refl, sym, ◌∙◌}
use mathlib.Core.Bool.{true, false}
use mir.Syntax.{w16}
use mir.Facts.{to_z-of_z}
use Rattle.acb_shown_file.proofs.Naming.{values-by}
use Rattle.acb_shown_file.proofs.values.Goals as goal

pub returns-then-n-eq4 : goal.returns-then-n-eq4
returns-then-n-eq4 c =
    let a = c.args in
    let n = c.components_of-n in
    values-by a.space a.bytes true (eq-eqb _ _ (sym n.ensures ∙ c.if-n-eq4.true))
    (to_z-of_z {w = w16} (sfits_of c.shown_component-a.type_inv) ∙ c.shown_component-a.ensures)
    (to_z-of_z {w = w16} (sfits_of c.shown_component-b.type_inv) ∙ c.shown_component-b.ensures)
    (to_z-of_z {w = w16} (sfits_of c.shown_component-c.type_inv) ∙ c.shown_component-c.ensures)
    (to_z-of_z {w = w16} (sfits_of c.shown_component-d.type_inv) ∙ c.shown_component-d.ensures)
    n.ensures

pub returns : goal.returns
returns c =
    let a = c.args in
    let n = c.components_of-n in
    values-by a.space a.bytes false (ne_eqb _ _ (λ z. c.if-n-eq4.false (n.ensures ∙ z)))
    (to_z-of_z {w = w16} (sfits_of c.shown_component-a.type_inv) ∙ c.shown_component-a.ensures)
    (to_z-of_z {w = w16} (sfits_of c.shown_component-b.type_inv) ∙ c.shown_component-b.ensures)
    (to_z-of_z {w = w16} (sfits_of c.shown_component-c.type_inv) ∙ c.shown_component-c.ensures)
    refl
    n.ensures
