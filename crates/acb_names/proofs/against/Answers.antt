use Rattle.std.proofs.Common.{ℕ, arith, ◌+◌, ◌*◌, ◌∙◌, ap, refl, sym}
use Rattle.algebra.specs.Numbers.{num}
use Rattle.acb_names.proofs.Units.{rest-same, rest-decides, rest-lengths}
use Rattle.acb_names.proofs.against.Goals as goal

pub returns-then-u-v : goal.returns-then-u-v
returns-then-u-v c =
    let a = c.args in
    let l = c.loop-k in
    let v = c.unit_at-v.ensures ∙ ap (λ (x : ℕ). num 2 a.file.now (x + 2 * l.k)) c.units_of-units.ensures.0 in
    rest-decides a.file.now a.name.now (a.p + 4) c.units_of-units.result.count l.k (omega arith) (omega arith) _ _ refl v c.if-u-v.true _ c.cmp.ensures ∙ sym l.invariant

pub loop-k-preserved : goal.loop-k-preserved
loop-k-preserved c =
    let a = c.args in
    let l = c.loop-k in
    let v = c.unit_at-v.ensures ∙ ap (λ (x : ℕ). num 2 a.file.now (x + 2 * l.k)) c.units_of-units.ensures.0 in
    l.invariant ∙ rest-same a.file.now a.name.now (a.p + 4) c.units_of-units.result.count l.k (omega arith) (omega arith) (omega (arith, v))

pub returns : goal.returns
returns c =
    let a = c.args in
    let l = c.loop-k in
    rest-lengths a.file.now a.name.now (a.p + 4) c.units_of-units.result.count l.k (omega arith) _ c.cmp-2.ensures ∙ sym l.invariant
