use Rattle.descriptor_find.proofs.Keys as K
use Rattle.descriptor_find.specs.Find.{equal_bytes}
use Rattle.algebra.specs.Reader.{pick}
use Rattle.algebra.specs.Numbers.{nums}
use native.Mathlib.Omega.{arith}
use mathlib.Core.Bool.{Bool, false}
use mathlib.Core.Path.{sym, ap, ◌∙◌}
use Prim.Native.Nat.{ℕ, ◌+◌, ◌-◌, ◌*◌, ◌/◌}
use Rattle.descriptor_find.proofs.same_body.Goals as goal

pub returns-then-same_words : goal.returns-then-same_words
returns-then-same_words c =
    let a = c.args in
    let f = a.file.now in
    let k = a.keys.now in
    let w : ℕ = a.size / 8 in
    let rest : Bool = equal_bytes (nums 1 (a.size - 8 * w) f (a.start + 8 * w)) (nums 1 (a.size - 8 * w) k (a.body + 8 * w)) in
    let t = K.words-first f k a.start a.body a.size w (omega arith) in
    c.same_bytes.ensures ∙ sym (t ∙ ap (λ (b : Bool). pick b rest false) (sym c.same_words.ensures ∙ c.if-same_words.true))

pub returns : goal.returns
returns c =
    let a = c.args in
    let f = a.file.now in
    let k = a.keys.now in
    let w : ℕ = a.size / 8 in
    let rest : Bool = equal_bytes (nums 1 (a.size - 8 * w) f (a.start + 8 * w)) (nums 1 (a.size - 8 * w) k (a.body + 8 * w)) in
    let t = K.words-first f k a.start a.body a.size w (omega arith) in
    sym (t ∙ ap (λ (b : Bool). pick b rest false) (sym c.same_words.ensures ∙ c.if-same_words.false))
