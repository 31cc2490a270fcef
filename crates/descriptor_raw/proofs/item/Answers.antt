use Rattle.std.proofs.Common.{rules}
use Rattle.descriptor_raw.proofs.Arms as K
use Rattle.descriptor_raw.proofs.item.Goals as goal

pub returns-in-1651470188 : goal.returns-in-1651470188
returns-in-1651470188 g c =
    let a = c.args in
    K.bool-head a.file.now a.kind a.v _ c.in-1651470188.is c.fixed.ensures

pub returns-in-1819242087 : goal.returns-in-1819242087
returns-in-1819242087 g c =
    let a = c.args in
    K.long-head a.file.now a.kind a.v _ c.in-1819242087.is c.fixed-in-1819242087.ensures

pub returns-in-1668246896 : goal.returns-in-1668246896
returns-in-1668246896 g c =
    let a = c.args in
    K.comp-head a.file.now a.kind a.v _ c.in-1668246896.is c.fixed-in-1668246896.ensures

pub returns-in-1685026146 : goal.returns-in-1685026146
returns-in-1685026146 g c =
    let a = c.args in
    K.double-head a.file.now a.kind a.v _ c.in-1685026146.is c.fixed-in-1685026146.ensures

pub returns-in-1433302086 : goal.returns-in-1433302086
returns-in-1433302086 g c =
    let a = c.args in
    K.unit-head a.file.now a.kind a.v _ c.in-1433302086.is c.fixed-in-1433302086.ensures

pub returns-in-1634494835 : goal.returns-in-1634494835
returns-in-1634494835 g c =
    let a = c.args in
    K.run-head a.file.now a.kind a.v _ c.in-1634494835.is c.run_head.ensures

pub returns-in-1413830740 : goal.returns-in-1413830740
returns-in-1413830740 g c =
    let a = c.args in
    K.text_head a.file.now a.kind a.v _ c.in-1413830740.is c.text_head.ensures

pub returns-in-1701737837 : goal.returns-in-1701737837
returns-in-1701737837 g c =
    let a = c.args in
    K.enumerated-head a.file.now a.kind a.v _ c.in-1701737837.is c.enumerated_head.ensures

pub returns-in-1954115685 : goal.returns-in-1954115685
returns-in-1954115685 g c =
    let a = c.args in
    K.class-head a.file.now a.kind a.v _ c.in-1954115685.is c.class_head.ensures

pub returns-in-1449938035 : goal.returns-in-1449938035
returns-in-1449938035 g c =
    let a = c.args in
    K.list-head a.file.now a.kind a.v _ c.in-1449938035.is c.list_head.ensures

pub returns-in-1868720672 : goal.returns-in-1868720672
returns-in-1868720672 g c =
    let a = c.args in
    K.reference-head a.file.now a.kind a.v _ c.in-1868720672.is c.list_head-in-1868720672.ensures

pub returns-in-1331849827 : goal.returns-in-1331849827
returns-in-1331849827 g c =
    let a = c.args in
    K.object-head a.file.now a.kind a.v _ c.in-1331849827.is c.object_head.ensures

pub returns-in-1331839346 : goal.returns-in-1331839346
returns-in-1331839346 g c =
    let a = c.args in
    K.array_head a.file.now a.kind a.v _ _ c.in-1331839346.is c.number_or_zero.ensures c.array_head.ensures

pub returns-in_default : goal.returns-in_default
returns-in_default g c =
    let a = c.args in
    K.unknown-head a.file.now a.kind a.v _ (search rules) c.fixed-in_default.ensures
