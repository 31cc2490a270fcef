use mathlib.Core.Bool.{true}
use Rattle.fault.proofs.Exit.{field-exit, short}
use Rattle.algebra.specs.Chars.{chars}
use Rattle.descriptor.specs.Reading.{item, object_of}
use Rattle.algebra.proofs.Laws.{field_next}
use Rattle.descriptor_judge.specs.scaffold.Counting.{walked, own_too}
use Rattle.descriptor_judge.proofs.Counting.{walked-no, walked-headed, holder-small}
use Rattle.descriptor_judge.proofs.Steps.{root-short, root-other, root_is}
use native.Mathlib.Omega.{arith}
use mathlib.Core.Path.{sym, ap, ◌∙◌}
use Rattle.descriptor_judge.proofs.root.Goals as goal

pub returns-in_err-version : goal.returns-in_err-version
returns-in_err-version c =
    let a = c.args in
    field-exit 4 _ _ _ _ _ c.from_residual.ensures.1 c.in_err-version.ensures (walked-no (root-short a.file.now 0 (short 4 _ _ c.in_err-version.ensures)))

pub returns-then-version-ne16 : goal.returns-then-version-ne16
returns-then-version-ne16 c =
    let a = c.args in
    walked-no (root-other a.file.now 0 c.in_ok-version.ensures c.if-version-ne16.true)

pub object-requires : goal.object-requires
object-requires c =
    let a = c.args in
    let h = field_next 4 a.file.now 0 _ _ c.in_ok-version.ensures in
    omega (arith, c.requires)

pub with_own-requires : goal.with_own-requires
with_own-requires c =
    let a = c.args in
    let h = field_next 4 a.file.now 0 _ _ c.in_ok-version.ensures in
    holder-small (record { size = c.requires; levels = omega arith; order = omega arith; inside = omega arith }) true c.object.ensures

pub returns : goal.returns
returns c =
    let a = c.args in
    c.with_own.ensures ∙ ap own_too c.object.ensures
    ∙ walked-headed (chars "Objc") 32 0 0 _ (object_of (item 32) 32 0 a.file.now _)
    ∙ sym (ap walked (root_is a.file.now 0 c.in_ok-version.ensures c.if-version-ne16.false))
