use mathlib.Core.Path.{refl}
use native.Mathlib.Omega.{arith}
use Rattle.descriptor_raw.proofs.Laws as L
use Rattle.descriptor_raw.proofs.head.Goals as goal

pub returns-then-at-gt-LIMIT : goal.returns-then-at-gt-LIMIT
returns-then-at-gt-LIMIT g c =
    λ l. absurd (omega (arith, l, c.if-at-gt-LIMIT.true))

pub returns-then-what-lt2 : goal.returns-then-what-lt2
returns-then-what-lt2 g c =
    let a = c.args in
    λ l. L.as-keyed a.file.now a.what a.objects a.at _ _ _ _ c.if-what-lt2.true refl c.key_end-start.ensures (L.item-sees a.file.now _ _ _ c.number_or_zero.ensures c.item.ensures)

pub returns-then-what-eq2 : goal.returns-then-what-eq2
returns-then-what-eq2 g c =
    let a = c.args in
    λ l. L.sees-due a.file.now a.at _ _ _ (L.due-forms a.what a.objects c.if-what-eq2.true) c.form_head.ensures

pub returns : goal.returns
returns g c =
    let a = c.args in
    λ l. L.sees-due a.file.now a.at _ _ _ (L.due-columns a.what a.objects c.if-what-lt2.false c.if-what-eq2.false) c.column_head.ensures
