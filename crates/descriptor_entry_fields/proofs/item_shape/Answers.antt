use mathlib.Core.Path.{refl, sym, ap, ◌∙◌}
use mathlib.Core.List.{[], ◌∷◌}
use Rattle.algebra.specs.Chars.{chars}
use Rattle.descriptor.proofs.Keys.{at-keys, past-keys}
use Rattle.descriptor_entry.specs.declared.Field.TheVariants as f
use Rattle.descriptor_entry.specs.Shapes.{only, both, classed, holding, object, item_shapes, shape_in, item_shape}
use Rattle.descriptor_entry_fields.proofs.item_shape.Goals as goal

pub returns-in-1651470188 : goal.returns-in-1651470188
unfolding item_shape
returns-in-1651470188 c = c.only.ensures ∙ sym (at-keys item_shape (only f.Flag) (chars "bool" ∷ []) _ (refl, tt) c.in-1651470188.is)

pub returns-in-1954115685 : goal.returns-in-1954115685
unfolding item_shape
returns-in-1954115685 c = c.classed.ensures ∙ sym (at-keys item_shape (classed f.Nothing f.Nothing) (chars "GlbC" ∷ chars "type" ∷ []) _ (refl, (refl, tt)) c.in-1954115685.is)

pub returns-in-1685026146 : goal.returns-in-1685026146
unfolding item_shape
returns-in-1685026146 c = c.only-in-1685026146.ensures ∙ sym (at-keys item_shape (only f.Double) (chars "doub" ∷ []) _ (refl, tt) c.in-1685026146.is)

pub returns-in-1701737837 : goal.returns-in-1701737837
unfolding item_shape
returns-in-1701737837 c = c.leaf.ensures ∙ sym (at-keys item_shape (both (f.Id 7) (f.Id 9)) (chars "enum" ∷ []) _ (refl, tt) c.in-1701737837.is)

pub returns-in-1634494835 : goal.returns-in-1634494835
unfolding item_shape
returns-in-1634494835 c = c.only-in-1634494835.ensures ∙ sym (at-keys item_shape (only (f.Run 7)) (chars "Pth " ∷ chars "alis" ∷ chars "tdta" ∷ []) _ (refl, (refl, (refl, tt))) c.in-1634494835.is)

pub returns-in-1819242087 : goal.returns-in-1819242087
unfolding item_shape
returns-in-1819242087 c = c.only-in-1819242087.ensures ∙ sym (at-keys item_shape (only (f.Word 13)) (chars "long" ∷ []) _ (refl, tt) c.in-1819242087.is)

pub returns-in-1668246896 : goal.returns-in-1668246896
unfolding item_shape
returns-in-1668246896 c = c.only-in-1668246896.ensures ∙ sym (at-keys item_shape (only f.Wide) (chars "comp" ∷ []) _ (refl, tt) c.in-1668246896.is)

pub returns-in-1413830740 : goal.returns-in-1413830740
unfolding item_shape
returns-in-1413830740 c = c.only-in-1413830740.ensures ∙ sym (at-keys item_shape (only (f.Text 7)) (chars "TEXT" ∷ []) _ (refl, tt) c.in-1413830740.is)

pub returns-in-1433302086 : goal.returns-in-1433302086
unfolding item_shape
returns-in-1433302086 c = c.leaf-in-1433302086.ensures ∙ sym (at-keys item_shape (both f.Measure f.Double) (chars "UntF" ∷ []) _ (refl, tt) c.in-1433302086.is)

pub returns-in-1449938035 : goal.returns-in-1449938035
unfolding item_shape
returns-in-1449938035 c = c.counted.ensures ∙ sym (at-keys item_shape (holding 0 (f.Word 14) f.Nothing f.Nothing f.Nothing) (chars "VlLs" ∷ []) _ (refl, tt) c.in-1449938035.is)

pub returns-in-1331849827 : goal.returns-in-1331849827
unfolding item_shape
returns-in-1331849827 c = c.holder.ensures ∙ sym (at-keys item_shape (object) (chars "GlbO" ∷ chars "Objc" ∷ []) _ (refl, (refl, tt)) c.in-1331849827.is)

pub returns-in-1868720672 : goal.returns-in-1868720672
unfolding item_shape
returns-in-1868720672 c = c.counted-in-1868720672.ensures ∙ sym (at-keys item_shape (holding 2 (f.Word 14) f.Nothing f.Nothing f.Nothing) (chars "obj " ∷ []) _ (refl, tt) c.in-1868720672.is)

pub returns-in-1331839346 : goal.returns-in-1331839346
unfolding item_shape
returns-in-1331839346 c = c.holder-in-1331839346.ensures ∙ sym (at-keys item_shape (holding 3 (f.Word 15) (f.Text 3) (f.Id 5) (f.Word 14)) (chars "ObAr" ∷ []) _ (refl, tt) c.in-1331839346.is)

pub returns-in_default : goal.returns-in_default
unfolding item_shape
returns-in_default c =
    let r = c.in_default.in_default-own.rest in
    c.unknown.ensures ∙ sym (ap shape_in (past-keys ((chars "bool" ∷ []) ∷ (chars "GlbC" ∷ chars "type" ∷ []) ∷ (chars "doub" ∷ []) ∷ (chars "enum" ∷ []) ∷ (chars "Pth " ∷ chars "alis" ∷ chars "tdta" ∷ []) ∷ (chars "long" ∷ []) ∷ (chars "comp" ∷ []) ∷ (chars "TEXT" ∷ []) ∷ (chars "UntF" ∷ []) ∷ (chars "VlLs" ∷ []) ∷ (chars "GlbO" ∷ chars "Objc" ∷ []) ∷ (chars "obj " ∷ []) ∷ (chars "ObAr" ∷ []) ∷ []) item_shapes _ tt (r.0.0.0.0.0.0.0.0.0.0.0.0.1, (r.0.0.0.0.0.0.0.0.0.0.0.1, (r.0.0.0.0.0.0.0.0.0.0.1, (r.0.0.0.0.0.0.0.0.0.1, (r.0.0.0.0.0.0.0.0.1, (r.0.0.0.0.0.0.0.1, (r.0.0.0.0.0.0.1, (r.0.0.0.0.0.1, (r.0.0.0.0.1, (r.0.0.0.1, (r.0.0.1, (r.0.1, (r.1, tt)))))))))))))))
