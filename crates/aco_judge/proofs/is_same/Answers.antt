use Prim.Native.Nat.{◌+◌, ◌-◌}
use mathlib.Core.Path.{sym, ap, ◌∙◌}
use mathlib.Core.Bool.{true≢false}
use native.Mathlib.Omega.{arith}
use native.Mathlib.Nat.{add-zero}
use borrow.Author.Tests.{eqb-true}
use Rattle.algebra.specs.Numbers.{num}
use Rattle.algebra.proofs.Places.{load_part, ten-same}
use Rattle.aco_judge.proofs.is_same.Goals as goal

pub returns-then-n-at : goal.returns-then-n-at
returns-then-n-at c = λ e. absurd (true≢false (sym e))

pub returns-then-number_or_zero : goal.returns-then-number_or_zero
returns-then-number_or_zero c = λ e. absurd (true≢false (sym e))

pub returns : goal.returns
returns c =
    let a = c.args in
    let s = a.file.now in
    let i = a.at + 10 - a.at in
    let j = a.first + 10 - a.first in
    let high = load_part 8 s a.at i 0 _ (omega arith) (omega arith) c.number_or_zero.ensures ∙ ap (num 8 s) (add-zero a.at) in
    let high₂ = load_part 8 s a.first j 0 _ (omega arith) (omega arith) c.number_or_zero-2.ensures ∙ ap (num 8 s) (add-zero a.first) in
    let low = load_part 2 s a.at i 8 _ (omega arith) (omega arith) c.number_or_zero-3.ensures in
    let low₂ = load_part 2 s a.first j 8 _ (omega arith) (omega arith) c.number_or_zero-4.ensures in
    λ e. (
      omega arith,
      ten-same s (λ k. omega (arith, c.type_inv.file k)) a.at a.first (sym high ∙ c.if-number_or_zero.false ∙ high₂) (sym low ∙ eqb-true _ _ e ∙ low₂),
    )
