use Rattle.descriptor_check.proofs.Decided.{decides, denied}
use Rattle.descriptor_check.proofs.Checking as K
use Rattle.descriptor_columns.proofs.Reading as R
use native.Mathlib.Omega.{arith}
use Rattle.descriptor_check.proofs.compare_all.Goals as goal

pub same_head-requires : goal.same_head-requires
same_head-requires c =
    let a = c.args in
    let p = c.requires in
    let m = R.some a.file.now a.rows p.0 in
    (omega (arith, m, p.1), omega (arith, m, p.4), omega (arith, m, p.5))

pub compare-requires : goal.compare-requires
compare-requires c =
    let a = c.args in
    let p = c.requires in
    (R.begun a.file.now a.rows p.0 _ c.root_head-head.ensures, p.1, p.2, p.3, p.4, p.5)

pub returns-then-same_head : goal.returns-then-same_head
returns-then-same_head c =
    let a = c.args in
    let p = c.requires in
    let y = c.same_head.ensures.yes c.if-same_head.true in
    decides c.compare.ensures (K.root-turn a.file.now a.rows p.0 _ c.root_head-head.ensures a.first.now a.size.now a.next.now a.depth.now a.kind.now y) (K.rest-told a.file.now a.rows p.0 _ c.root_head-head.ensures a.first.now a.size.now a.next.now a.depth.now a.kind.now y)

pub returns : goal.returns
returns c =
    let a = c.args in
    let p = c.requires in
    let m = R.some a.file.now a.rows p.0 in
    denied c.same_head.ensures c.if-same_head.false (K.root_told a.file.now a.rows p.0 _ c.root_head-head.ensures a.first.now a.size.now a.next.now a.depth.now a.kind.now (omega (arith, m, p.1)) (omega (arith, m, p.4)) (omega (arith, m, p.5)))
