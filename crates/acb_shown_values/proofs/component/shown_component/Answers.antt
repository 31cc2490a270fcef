use borrow.Author.Rules.{sfits_of}
use mir.Syntax.{w16}
use mathlib.Core.Path.{sym, ◌∙◌}
use mir.Facts.{to_z-of_z}
use Rattle.acb_shown_values.proofs.Components.{shown-ink, shown-lightness, shown-about, shown-plain, byte-shown}
use Rattle.acb_shown_values.proofs.component.shown_component.Goals as goal

pub returns-then-space-eq-CMYK : goal.returns-then-space-eq-CMYK
returns-then-space-eq-CMYK c = to_z-of_z {w = w16} (sfits_of c.percent.type_inv) ∙ c.percent.ensures ∙ sym (shown-ink _ _ _ c.if-space-eq-CMYK.true)

pub returns-then-position-eq0 : goal.returns-then-position-eq0
returns-then-position-eq0 c = to_z-of_z {w = w16} (sfits_of c.percent-then-position-eq0.type_inv) ∙ c.percent-then-position-eq0.ensures ∙ sym (shown-lightness _ _ _ c.if-space-eq-LAB.true c.if-position-eq0.true)

pub returns-then-space-eq-LAB : goal.returns-then-space-eq-LAB
returns-then-space-eq-LAB c = to_z-of_z {w = w16} (sfits_of c.centred.type_inv) ∙ c.centred.ensures ∙ sym (shown-about _ _ _ c.if-space-eq-LAB.true c.if-position-eq0.false)

pub returns : goal.returns
returns c = byte-shown c.args.byte c.ranges.byte.fits ∙ sym (shown-plain _ _ _ c.if-space-eq-CMYK.false c.if-space-eq-LAB.false)
