use Rattle.descriptor_find.proofs.Keys as K
use Rattle.descriptor_find.specs.Find.{equal_bytes}
use Rattle.algebra.specs.Reader.{pick}
use Rattle.algebra.specs.Numbers.{nums}
use native.Mathlib.Omega.{arith}
use borrow.Author.Tests.{eq-eqb, ne_eqb}
use lib.ListN.{get_or}
use mathlib.Core.Bool.{Bool, false}
use mathlib.Core.Path.{sym, ap, ◌∙◌}
use Prim.Native.Nat.{◌+◌, ◌-◌}
use Rattle.descriptor_find.proofs.same_bytes.Goals as goal

pub loop-i-init : goal.loop-i-init
loop-i-init c =
    let a = c.args in
    K.bytes-start a.file.now a.keys.now a.start a.body a.size

pub overflow_add-start : goal.overflow_add-start
overflow_add-start c =
    let p = c.requires in
    omega (arith, p.0)

pub bounds-file-start : goal.bounds-file-start
bounds-file-start c =
    let p = c.requires in
    omega (arith, p.0)

pub overflow_add-body : goal.overflow_add-body
overflow_add-body c =
    let p = c.requires in
    omega (arith, p.1)

pub bounds-keys-body : goal.bounds-keys-body
bounds-keys-body c =
    let p = c.requires in
    omega (arith, p.1)

pub returns-then-file-start : goal.returns-then-file-start
returns-then-file-start c =
    let a = c.args in
    let l = c.loop-i in
    sym (l.invariant ∙ K.bytes-turn a.file.now a.keys.now a.start a.body a.size l.i c.loop-i-test.true ∙ ap (λ (b : Bool). pick b (equal_bytes (nums 1 (a.size - (l.i + 1)) a.file.now (a.start + (l.i + 1))) (nums 1 (a.size - (l.i + 1)) a.keys.now (a.body + (l.i + 1)))) false) (ne_eqb (get_or a.file.now (a.start + l.i) 0) (get_or a.keys.now (a.body + l.i) 0) c.if-file-start.true))

pub loop-i-preserved : goal.loop-i-preserved
loop-i-preserved c =
    let a = c.args in
    let l = c.loop-i in
    l.invariant ∙ K.bytes-turn a.file.now a.keys.now a.start a.body a.size l.i c.loop-i-test.true ∙ ap (λ (b : Bool). pick b (equal_bytes (nums 1 (a.size - (l.i + 1)) a.file.now (a.start + (l.i + 1))) (nums 1 (a.size - (l.i + 1)) a.keys.now (a.body + (l.i + 1)))) false) (eq-eqb (get_or a.file.now (a.start + l.i) 0) (get_or a.keys.now (a.body + l.i) 0) c.if-file-start.false)

pub returns : goal.returns
returns c =
    let a = c.args in
    let l = c.loop-i in
    sym (l.invariant ∙ K.bytes-end a.file.now a.keys.now (a.start + l.i) (a.body + l.i) a.size l.i c.loop-i-test.false)
