use Rattle.std.proofs.Common.{rules}
use Rattle.algebra.specs.Chars.{chars}
use Rattle.descriptor.proofs.Keys.{at-keys, past-keys}
use Rattle.descriptor.specs.Reading.{is, skip, id, unicode, enumerated, forms, form_of}
use mathlib.Core.List.{[], ◌∷◌}
use mathlib.Core.Path.{refl, sym}
use Rattle.descriptor_fields.proofs.form_of.Goals as goal

pub returns-in-1131180915 : goal.returns-in-1131180915
unfolding form_of
returns-in-1131180915 c = sym (at-keys form_of (is (skip 0)) (chars "Clss" ∷ []) _ (refl, tt) c.in-1131180915.is)

pub returns-in-1164864882 : goal.returns-in-1164864882
unfolding form_of
returns-in-1164864882 c = sym (at-keys form_of (is enumerated) (chars "Enmr" ∷ []) _ (refl, tt) c.in-1164864882.is)

pub returns-in-1886547824 : goal.returns-in-1886547824
unfolding form_of
returns-in-1886547824 c = sym (at-keys form_of (is id) (chars "prop" ∷ []) _ (refl, tt) c.in-1886547824.is)

pub returns-in-1851878757 : goal.returns-in-1851878757
unfolding form_of
returns-in-1851878757 c = sym (at-keys form_of (is unicode) (chars "name" ∷ []) _ (refl, tt) c.in-1851878757.is)

pub returns-in-1231318644 : goal.returns-in-1231318644
unfolding form_of
returns-in-1231318644 c = sym (at-keys form_of (is (skip 4)) (chars "Idnt" ∷ chars "indx" ∷ chars "rele" ∷ []) _ (refl, (refl, (refl, tt))) c.in-1231318644.is)

pub returns-in_default : goal.returns-in_default
unfolding form_of
returns-in_default c =
    sym (past-keys ((chars "Clss" ∷ []) ∷ (chars "Enmr" ∷ []) ∷ (chars "prop" ∷ []) ∷ (chars "name" ∷ []) ∷ (chars "Idnt" ∷ chars "indx" ∷ chars "rele" ∷ []) ∷ []) forms c.args.kind tt (search rules))
