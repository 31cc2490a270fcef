use Prim.Native.Nat.{ℕ, ◌+◌, ◌*◌, ◌-◌}
use mathlib.Core.Path.{◌≡◌, refl, sym, ap, ◌∙◌, subst}
use native.Mathlib.Omega.{arith}
use lib.ListN.{take, drop}
use Rattle.aco_chunks.specs.Chunks.{colour_item}
use Rattle.aco_pass.specs.scaffold.Parts.{Sounds, is_accepted}
use Rattle.aco_items.proofs.Fields.{colourItem-is}
use Rattle.aco_pass.proofs.Passing.{is_ok, sounds-more}
use Rattle.aco_pass.proofs.sound_in.Goals as goal

pub loop-k-init : goal.loop-k-init
loop-k-init c = (omega arith, tt)

pub loop-k-preserved : goal.loop-k-preserved
loop-k-preserved c =
    let l = c.loop-k in
    let a = c.args in
    let p = a.at + 10 * l.k in
    let w : p + 10 - p ≡ 10 = omega arith in
    let k = colourItem-is (take (p + 10 - p) (drop p a.bytes.now)) (sym c.in-Ok.ensures) in
    let o = ap (λ (x : ℕ). is_accepted (colour_item (take x (drop p a.bytes.now)) 0)) (sym w) ∙ is_ok _ k in
    (omega arith, sounds-more l.k a.bytes.now a.at p refl l.invariant.1 o)

pub returns-in-Err : goal.returns-in-Err
returns-in-Err c = let l = c.loop-k in (omega arith, l.invariant.1)

pub returns : goal.returns
returns c =
    let l = c.loop-k in
    let e : l.k ≡ c.args.n = omega arith in
    (omega arith, subst (λ (k : ℕ). Sounds k c.args.bytes.now c.args.at) e l.invariant.1)
