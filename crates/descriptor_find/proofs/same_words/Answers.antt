use Rattle.descriptor_find.proofs.Keys as K
use Rattle.descriptor_find.specs.Find.{equal_bytes}
use Rattle.algebra.specs.Reader.{pick}
use Rattle.algebra.specs.Numbers.{nums}
use native.Mathlib.Omega.{arith}
use borrow.Author.Tests.{eq-eqb, ne_eqb}
use mathlib.Core.Bool.{Bool, false}
use mathlib.Core.Path.{sym, ap, ◌∙◌}
use Prim.Native.Nat.{◌+◌, ◌-◌, ◌*◌}
use Rattle.descriptor_find.proofs.same_words.Goals as goal

pub loop-i-init : goal.loop-i-init
loop-i-init c =
    let a = c.args in
    K.words-start a.file.now a.keys.now a.start a.body a.words

pub overflow_mul-at : goal.overflow_mul-at
overflow_mul-at c =
    let p = c.requires in
    omega (arith, p.0, c.loop-i-test.true)

pub overflow_add-start : goal.overflow_add-start
overflow_add-start c =
    let p = c.requires in
    omega (arith, p.0, c.loop-i-test.true)

pub overflow_add-body : goal.overflow_add-body
overflow_add-body c =
    let p = c.requires in
    omega (arith, p.1, c.loop-i-test.true)

pub returns-then-word-number_or_zero : goal.returns-then-word-number_or_zero
returns-then-word-number_or_zero c =
    let a = c.args in
    let p = c.requires in
    let o = c.loop-i in
    let l = c.loop-i-test.true in
    let f = a.file.now in
    let k = a.keys.now in
    let x = K.word_at f (a.start + 8 * o.i) _ (omega (arith, p.0, l)) c.number_or_zero-word.ensures in
    let y = K.word_at k (a.body + 8 * o.i) _ (omega (arith, p.1, l)) c.number_or_zero.ensures in
    let t = K.words-turn f k a.start a.body a.words (λ j. omega (arith, c.type_inv.file j)) (λ j. omega (arith, c.type_inv.keys j)) o.i l in
    sym (o.invariant ∙ t ∙ ap (λ (b : Bool). pick b (equal_bytes (nums 1 (8 * (a.words - (o.i + 1))) f (a.start + 8 * (o.i + 1))) (nums 1 (8 * (a.words - (o.i + 1))) k (a.body + 8 * (o.i + 1)))) false) (ne_eqb _ _ (λ z. c.if-word-number_or_zero.true (x ∙ z ∙ sym y))))

pub loop-i-preserved : goal.loop-i-preserved
loop-i-preserved c =
    let a = c.args in
    let p = c.requires in
    let o = c.loop-i in
    let l = c.loop-i-test.true in
    let f = a.file.now in
    let k = a.keys.now in
    let x = K.word_at f (a.start + 8 * o.i) _ (omega (arith, p.0, l)) c.number_or_zero-word.ensures in
    let y = K.word_at k (a.body + 8 * o.i) _ (omega (arith, p.1, l)) c.number_or_zero.ensures in
    let t = K.words-turn f k a.start a.body a.words (λ j. omega (arith, c.type_inv.file j)) (λ j. omega (arith, c.type_inv.keys j)) o.i l in
    o.invariant ∙ t ∙ ap (λ (b : Bool). pick b (equal_bytes (nums 1 (8 * (a.words - (o.i + 1))) f (a.start + 8 * (o.i + 1))) (nums 1 (8 * (a.words - (o.i + 1))) k (a.body + 8 * (o.i + 1)))) false) (eq-eqb _ _ (sym x ∙ c.if-word-number_or_zero.false ∙ y))

pub returns : goal.returns
returns c =
    let a = c.args in
    let o = c.loop-i in
    sym (o.invariant ∙ K.words-end a.file.now a.keys.now a.start a.body a.words o.i c.loop-i-test.false)
