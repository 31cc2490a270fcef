use Rattle.descriptor_fields.proofs.Exits.{exit}
use Rattle.descriptor.proofs.Fields.{unicode-none, unicode-cut, unicode-open, unicode-is}
use Rattle.descriptor.specs.Reading.{unicode}
use Rattle.algebra.proofs.Laws.{field_next}
use native.Mathlib.Omega.{arith}
use mathlib.Core.Path.{sym}
use Rattle.descriptor_fields.proofs.unicode_at.Goals as goal

pub returns-in_err-n : goal.returns-in_err-n
unfolding unicode
returns-in_err-n c = exit _ _ _ _ c.from_residual.ensures.1 c.in_err-n.ensures

pub returns-then-n-eq0 : goal.returns-then-n-eq0
returns-then-n-eq0 c =
    let a = c.args in
    sym (unicode-none a.file.now a.at _ _ c.in_ok-n.ensures c.if-n-eq0.true)

pub overflow_sub-file : goal.overflow_sub-file
overflow_sub-file c =
    let a = c.args in
    let f = field_next 4 a.file.now a.at _ _ c.in_ok-n.ensures in
    omega arith

pub returns-then-file-first : goal.returns-then-file-first
returns-then-file-first c =
    let a = c.args in
    sym (unicode-cut a.file.now a.at _ _ c.in_ok-n.ensures (omega arith) (omega arith))

pub returns-then-number_or_zero-ne0 : goal.returns-then-number_or_zero-ne0
returns-then-number_or_zero-ne0 c =
    let a = c.args in
    sym (unicode-open a.file.now a.at _ _ c.in_ok-n.ensures (omega arith) (omega arith) _ c.number_or_zero.ensures c.if-number_or_zero-ne0.true)

pub returns : goal.returns
returns c =
    let a = c.args in
    sym (unicode-is a.file.now a.at _ _ c.in_ok-n.ensures (omega arith) (omega arith) _ c.number_or_zero.ensures c.if-number_or_zero-ne0.false _ (omega arith))
