use Rattle.std.proofs.Common.{rules}
use Rattle.algebra.specs.Chars.{chars}
use Rattle.descriptor.proofs.Keys.{at-keys, past-keys}
use Rattle.descriptor_fields.specs.scaffold.Answer.{end_of, begun}
use Rattle.descriptor.specs.Reading.{is, leaf, list, object, reference, array, skip, unicode, class, flag, double, enumerated, raw_bytes, unit_double, types, sort_of}
use mathlib.Core.List.{[], ◌∷◌}
use mathlib.Core.Path.{refl, sym, ap, ◌∙◌}
use Rattle.descriptor_fields.proofs.begin.Goals as goal

pub returns-in-1651470188 : goal.returns-in-1651470188
unfolding sort_of
returns-in-1651470188 c =
    let a = c.args in
    c.ending.ensures ∙ ap end_of c.flag_at.ensures ∙ sym (ap (λ k. begun k a.file.now a.at) (at-keys sort_of (is (leaf flag)) (chars "bool" ∷ []) _ (refl, tt) c.in-1651470188.is))

pub returns-in-1954115685 : goal.returns-in-1954115685
unfolding sort_of
returns-in-1954115685 c =
    let a = c.args in
    c.ending-in-1954115685.ensures ∙ ap end_of c.class_at.ensures ∙ sym (ap (λ k. begun k a.file.now a.at) (at-keys sort_of (is (leaf class)) (chars "GlbC" ∷ chars "type" ∷ []) _ (refl, (refl, tt)) c.in-1954115685.is))

pub returns-in-1685026146 : goal.returns-in-1685026146
unfolding sort_of
returns-in-1685026146 c =
    let a = c.args in
    c.ending-in-1685026146.ensures ∙ ap end_of c.double_at.ensures ∙ sym (ap (λ k. begun k a.file.now a.at) (at-keys sort_of (is (leaf double)) (chars "doub" ∷ []) _ (refl, tt) c.in-1685026146.is))

pub returns-in-1701737837 : goal.returns-in-1701737837
unfolding sort_of
returns-in-1701737837 c =
    let a = c.args in
    c.ending-in-1701737837.ensures ∙ ap end_of c.enumerated_at.ensures ∙ sym (ap (λ k. begun k a.file.now a.at) (at-keys sort_of (is (leaf enumerated)) (chars "enum" ∷ []) _ (refl, tt) c.in-1701737837.is))

pub returns-in-1634494835 : goal.returns-in-1634494835
unfolding sort_of
returns-in-1634494835 c =
    let a = c.args in
    c.ending-in-1634494835.ensures ∙ ap end_of c.bytes_at.ensures ∙ sym (ap (λ k. begun k a.file.now a.at) (at-keys sort_of (is (leaf raw_bytes)) (chars "Pth " ∷ chars "alis" ∷ chars "tdta" ∷ []) _ (refl, (refl, (refl, tt))) c.in-1634494835.is))

pub returns-in-1819242087 : goal.returns-in-1819242087
unfolding sort_of
returns-in-1819242087 c =
    let a = c.args in
    c.ending-in-1819242087.ensures ∙ ap end_of c.run_at.ensures ∙ sym (ap (λ k. begun k a.file.now a.at) (at-keys sort_of (is (leaf (skip 4))) (chars "long" ∷ []) _ (refl, tt) c.in-1819242087.is))

pub returns-in-1668246896 : goal.returns-in-1668246896
unfolding sort_of
returns-in-1668246896 c =
    let a = c.args in
    c.ending-in-1668246896.ensures ∙ ap end_of c.run_at-in-1668246896.ensures ∙ sym (ap (λ k. begun k a.file.now a.at) (at-keys sort_of (is (leaf (skip 8))) (chars "comp" ∷ []) _ (refl, tt) c.in-1668246896.is))

pub returns-in-1413830740 : goal.returns-in-1413830740
unfolding sort_of
returns-in-1413830740 c =
    let a = c.args in
    c.ending-in-1413830740.ensures ∙ ap end_of c.unicode_at.ensures ∙ sym (ap (λ k. begun k a.file.now a.at) (at-keys sort_of (is (leaf unicode)) (chars "TEXT" ∷ []) _ (refl, tt) c.in-1413830740.is))

pub returns-in-1433302086 : goal.returns-in-1433302086
unfolding sort_of
returns-in-1433302086 c =
    let a = c.args in
    c.ending-in-1433302086.ensures ∙ ap end_of c.unit_double_at.ensures ∙ sym (ap (λ k. begun k a.file.now a.at) (at-keys sort_of (is (leaf unit_double)) (chars "UntF" ∷ []) _ (refl, tt) c.in-1433302086.is))

pub returns-in-1449938035 : goal.returns-in-1449938035
unfolding sort_of
returns-in-1449938035 c =
    let a = c.args in
    sym (ap (λ k. begun k a.file.now a.at) (at-keys sort_of (is list) (chars "VlLs" ∷ []) _ (refl, tt) c.in-1449938035.is))

pub returns-in-1331849827 : goal.returns-in-1331849827
unfolding sort_of
returns-in-1331849827 c =
    let a = c.args in
    sym (ap (λ k. begun k a.file.now a.at) (at-keys sort_of (is object) (chars "GlbO" ∷ chars "Objc" ∷ []) _ (refl, (refl, tt)) c.in-1331849827.is))

pub returns-in-1868720672 : goal.returns-in-1868720672
unfolding sort_of
returns-in-1868720672 c =
    let a = c.args in
    sym (ap (λ k. begun k a.file.now a.at) (at-keys sort_of (is reference) (chars "obj " ∷ []) _ (refl, tt) c.in-1868720672.is))

pub returns-in-1331839346 : goal.returns-in-1331839346
unfolding sort_of
returns-in-1331839346 c =
    let a = c.args in
    sym (ap (λ k. begun k a.file.now a.at) (at-keys sort_of (is array) (chars "ObAr" ∷ []) _ (refl, tt) c.in-1331839346.is))

pub returns-in_default : goal.returns-in_default
unfolding sort_of
returns-in_default c =
    let a = c.args in
    sym (ap (λ k. begun k a.file.now a.at) (past-keys ((chars "bool" ∷ []) ∷ (chars "GlbC" ∷ chars "type" ∷ []) ∷ (chars "doub" ∷ []) ∷ (chars "enum" ∷ []) ∷ (chars "Pth " ∷ chars "alis" ∷ chars "tdta" ∷ []) ∷ (chars "long" ∷ []) ∷ (chars "comp" ∷ []) ∷ (chars "TEXT" ∷ []) ∷ (chars "UntF" ∷ []) ∷ (chars "VlLs" ∷ []) ∷ (chars "GlbO" ∷ chars "Objc" ∷ []) ∷ (chars "obj " ∷ []) ∷ (chars "ObAr" ∷ []) ∷ []) types a.kind tt (search rules)))
