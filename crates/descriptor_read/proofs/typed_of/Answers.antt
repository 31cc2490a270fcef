use Rattle.std.proofs.Common.{rules}
use Rattle.descriptor_read.proofs.Typing.{typed-bool, typed_long, typed-comp, typed-double, typed-unit, typed-other, double-ready, unit-ready}
use Rattle.descriptor_read.proofs.typed_of.Goals as goal

pub double_of-requires : goal.double_of-requires
double_of-requires c =
    let a = c.args in
    double-ready a.file.now a.kind a.value c.requires.0 c.in-1685026146.is

pub double_of-requires-in-1433302086 : goal.double_of-requires-in-1433302086
double_of-requires-in-1433302086 c =
    let a = c.args in
    let u = unit-ready a.file.now a.kind a.value c.requires.0 c.in-1433302086.is in
    (u.1, u.2)

pub returns-in-1651470188 : goal.returns-in-1651470188
returns-in-1651470188 c =
    let a = c.args in
    typed-bool a.file.now a.kind a.value c.requires.0 c.in-1651470188.is _ c.is_one.ensures

pub returns-in-1819242087 : goal.returns-in-1819242087
returns-in-1819242087 c =
    let a = c.args in
    typed_long a.file.now a.kind a.value c.requires.0 c.in-1819242087.is _ c.number_or_zero.ensures

pub returns-in-1668246896 : goal.returns-in-1668246896
returns-in-1668246896 c =
    let a = c.args in
    typed-comp a.file.now a.kind a.value c.requires.0 c.in-1668246896.is _ c.number_or_zero-in-1668246896.ensures

pub returns-in-1685026146 : goal.returns-in-1685026146
returns-in-1685026146 c =
    let a = c.args in
    typed-double a.file.now a.kind a.value c.requires.0 c.in-1685026146.is _ c.double_of.ensures

pub returns-in-1433302086 : goal.returns-in-1433302086
returns-in-1433302086 c =
    let a = c.args in
    typed-unit a.file.now a.kind a.value c.requires.0 c.in-1433302086.is _ c.number_or_zero-unit.ensures _ c.double_of-in-1433302086.ensures

pub returns-in_default : goal.returns-in_default
returns-in_default c =
    let a = c.args in
    typed-other a.file.now a.kind a.value (search rules) (search rules) (search rules) (search rules) (search rules)
