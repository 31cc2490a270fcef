use mathlib.Core.Path.{refl, sym, ap, ◌∙◌}
use mathlib.Core.List.{[], ◌∷◌}
use Rattle.algebra.specs.Chars.{chars}
use Rattle.descriptor.proofs.Keys.{at-keys, past-keys}
use Rattle.descriptor_entry.specs.declared.Field.TheVariants as f
use Rattle.descriptor_entry.specs.Shapes.{classed, form_shapes, shape_in, form_shape}
use Rattle.descriptor_entry_fields.proofs.form_shape.Goals as goal

pub returns-in-1131180915 : goal.returns-in-1131180915
unfolding form_shape
returns-in-1131180915 c = c.classed.ensures ∙ sym (at-keys form_shape (classed f.Nothing f.Nothing) (chars "Clss" ∷ []) _ (refl, tt) c.in-1131180915.is)

pub returns-in-1164864882 : goal.returns-in-1164864882
unfolding form_shape
returns-in-1164864882 c = c.classed-in-1164864882.ensures ∙ sym (at-keys form_shape (classed (f.Id 7) (f.Id 9)) (chars "Enmr" ∷ []) _ (refl, tt) c.in-1164864882.is)

pub returns-in-1886547824 : goal.returns-in-1886547824
unfolding form_shape
returns-in-1886547824 c = c.classed-in-1886547824.ensures ∙ sym (at-keys form_shape (classed (f.Id 7) f.Nothing) (chars "prop" ∷ []) _ (refl, tt) c.in-1886547824.is)

pub returns-in-1851878757 : goal.returns-in-1851878757
unfolding form_shape
returns-in-1851878757 c = c.classed-in-1851878757.ensures ∙ sym (at-keys form_shape (classed (f.Text 7) f.Nothing) (chars "name" ∷ []) _ (refl, tt) c.in-1851878757.is)

pub returns-in-1231318644 : goal.returns-in-1231318644
unfolding form_shape
returns-in-1231318644 c = c.classed-in-1231318644.ensures ∙ sym (at-keys form_shape (classed (f.Word 13) f.Nothing) (chars "Idnt" ∷ chars "indx" ∷ chars "rele" ∷ []) _ (refl, (refl, (refl, tt))) c.in-1231318644.is)

pub returns-in_default : goal.returns-in_default
unfolding form_shape
returns-in_default c =
    let r = c.in_default.in_default-own.rest in
    c.unknown.ensures ∙ sym (ap shape_in (past-keys ((chars "Clss" ∷ []) ∷ (chars "Enmr" ∷ []) ∷ (chars "prop" ∷ []) ∷ (chars "name" ∷ []) ∷ (chars "Idnt" ∷ chars "indx" ∷ chars "rele" ∷ []) ∷ []) form_shapes _ tt (r.0.0.0.0.1, (r.0.0.0.1, (r.0.0.1, (r.0.1, (r.1, tt)))))))
