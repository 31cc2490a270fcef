use Prim.Native.Nat.{ℕ, ◌+◌, ◌*◌, ◌-◌}
use mathlib.Core.Path.{◌≡◌, refl, ap, ◌∙◌}
use native.Mathlib.Omega.{arith}
use lib.ListN.{take, drop}
use Rattle.algebra.specs.Store.{stored}
use Rattle.aco_pass.proofs.Passing.{passes-colours, pos}
use Rattle.aco_pass.proofs.pass_colours.Goals as goal

pub returns : goal.returns
returns c =
    let a = c.args in
    let d = c.due_of-n in
    let s = c.sound_in-k in
    let k = pos c.if-k-eq0.false in
    let l = d.ensures.1 (omega (arith, k, s.ensures.0)) in
    let w : a.at + 10 * s.result - a.at ≡ 10 * s.result = omega arith in
    λ start fits. passes-colours start a.bytes.now a.count a.index a.at a.store.now fits s.result k s.ensures.1 (omega (arith, l.0, s.ensures.0)) (omega (arith, l.1, s.ensures.0)) (a.at + 10 * s.result) refl (omega (arith, d.ensures.0, s.ensures.0, c.requires.0)) c.colours_of.result c.colours_of.ensures _ (c.put_run.ensures ∙ ap (λ (x : ℕ). stored a.store.now (10 * a.index) (take x (drop a.at a.bytes.now))) w)
