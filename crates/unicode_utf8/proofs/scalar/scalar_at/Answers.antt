use mathlib.Core.Path.{sym, ◌∙◌}
use native.Mathlib.Omega.{arith}
use Rattle.unicode_utf8.proofs.Scalars.{pair_is, scalar-pair, scalar-lone, scalar-own}
use Rattle.unicode_utf8.proofs.scalar.scalar_at.Goals as goal

pub overflow_sub-result : goal.overflow_sub-result
overflow_sub-result c = let a = c.args in let p = pair_is a.u a.v (sym c.if-is_pair.true ∙ c.is_pair.ensures) in omega arith

pub overflow_sub-result-then-is_pair : goal.overflow_sub-result-then-is_pair
overflow_sub-result-then-is_pair c = let a = c.args in let p = pair_is a.u a.v (sym c.if-is_pair.true ∙ c.is_pair.ensures) in omega arith

pub overflow_add-result-then-is_pair : goal.overflow_add-result-then-is_pair
overflow_add-result-then-is_pair c = let a = c.args in let p = pair_is a.u a.v (sym c.if-is_pair.true ∙ c.is_pair.ensures) in omega arith

pub returns-then-is_pair : goal.returns-then-is_pair
returns-then-is_pair c =
    let a = c.args in
    let t = sym c.if-is_pair.true ∙ c.is_pair.ensures in
    let p = pair_is a.u a.v t in
    (scalar-pair a.u a.v t, omega arith)

pub returns-then-u-eq27 : goal.returns-then-u-eq27
returns-then-u-eq27 c =
    let a = c.args in
    (scalar-lone a.u a.v (sym c.if-is_pair.false ∙ c.is_pair.ensures) c.if-u-eq27.true, omega arith)

pub returns : goal.returns
returns c =
    let a = c.args in
    (scalar-own a.u a.v (sym c.if-is_pair.false ∙ c.is_pair.ensures) c.if-u-eq27.false, omega arith)
