use Prim.Native.Nat.{◌+◌, ◌-◌}
use mathlib.Core.Path.{sym, ap, ◌∙◌}
use native.Mathlib.Omega.{arith}
use mathlib.Core.Bool.{true≢false}
use native.Mathlib.Nat.{add-zero}
use borrow.Author.Tests.{eqb-true}
use Rattle.algebra.specs.Numbers.{num}
use Rattle.algebra.specs.Reader.{or_zero}
use Rattle.algebra.proofs.Laws.{field_in}
use Rattle.algebra.proofs.Places.{load_part}
use Rattle.aco_pass.proofs.Heads.{ten-same}
use Rattle.aco_pass.proofs.is_same.Goals as goal

pub returns-then-n-lt10 : goal.returns-then-n-lt10
returns-then-n-lt10 c = λ e. absurd (true≢false (sym e))

pub returns-then-n-first : goal.returns-then-n-first
returns-then-n-first c = λ e. absurd (true≢false (sym e))

pub returns-then-number_or_zero : goal.returns-then-number_or_zero
returns-then-number_or_zero c = λ e. absurd (true≢false (sym e))

pub returns : goal.returns
returns c =
    let a = c.args in
    let n = c.requires in
    let s = a.head.now in
    let t = a.store.now in
    let j = a.first + 10 - a.first in
    let high = c.number_or_zero.ensures ∙ ap or_zero (field_in 8 s 0 (omega (arith, n))) in
    let high₂ = load_part 8 t a.first j 0 _ (omega arith) (omega arith) c.number_or_zero-2.ensures ∙ ap (num 8 t) (add-zero a.first) in
    let low = c.number_or_zero-3.ensures ∙ ap or_zero (field_in 2 s 8 (omega (arith, n))) in
    let low₂ = load_part 2 t a.first j 8 _ (omega arith) (omega arith) c.number_or_zero-4.ensures in
    λ e. (
      omega arith,
      ten-same s t (λ i. omega (arith, c.type_inv.head i)) (λ i. omega (arith, c.type_inv.store i)) a.first (sym high ∙ c.if-number_or_zero.false ∙ high₂) (sym low ∙ eqb-true _ _ e ∙ low₂),
    )
