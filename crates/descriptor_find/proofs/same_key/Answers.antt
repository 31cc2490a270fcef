use Rattle.descriptor_find.proofs.Keys as K
use Rattle.algebra.specs.Numbers.{nums}
use native.Mathlib.Omega.{arith}
use Rattle.descriptor_find.proofs.same_key.Goals as goal

pub overflow_add-first : goal.overflow_add-first
overflow_add-first c =
    let p = c.requires in
    omega (arith, p.0, p.1)

pub overflow_add-first-2 : goal.overflow_add-first-2
overflow_add-first-2 c =
    let p = c.requires in
    omega (arith, p.0, p.1)

pub returns-then-file-first : goal.returns-then-file-first
returns-then-file-first c =
    let a = c.args in
    K.compared-short a.file.now a.first a.tag a.size (nums 1 a.size a.keys.now a.body) c.requires.2 c.if-file-first.true

pub returns-then-number_or_zero-tag : goal.returns-then-number_or_zero-tag
returns-then-number_or_zero-tag c =
    let a = c.args in
    K.compared-other a.file.now a.first a.tag a.size (nums 1 a.size a.keys.now a.body) c.requires.2 c.if-file-first.false c.number_or_zero.ensures c.if-number_or_zero-tag.true

pub overflow_add-first-3 : goal.overflow_add-first-3
overflow_add-first-3 c =
    let p = c.requires in
    omega (arith, p.0)

pub same_body-requires : goal.same_body-requires
same_body-requires c =
    let p = c.requires in
    let l = c.if-file-first.false in
    (omega (arith, l), p.3)

pub returns : goal.returns
returns c =
    let a = c.args in
    K.compared-body a.file.now a.first a.tag a.size (nums 1 a.size a.keys.now a.body) c.requires.2 c.if-file-first.false c.number_or_zero.ensures c.if-number_or_zero-tag.false _ c.same_body.ensures
