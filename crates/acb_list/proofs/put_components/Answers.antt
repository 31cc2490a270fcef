use borrow.Author.Rules.{rules}
use native.Mathlib.Omega.{arith}
use Prim.Native.Nat.{ℕ}
use lib.ListN.{take, length-take}
use lib.Seq.{get_or-take}
use mathlib.Core.Path.{refl, sym, ap, ◌∙◌}
use Rattle.listing.specs.Buffer.{put_all}
use Rattle.listing.specs.Text.{word}
use Rattle.listing.proofs.Putting.{items-turn, items-end}
use Rattle.acb_list.proofs.put_components.Goals as goal

pub loop-k-init : goal.loop-k-init
loop-k-init c = (omega arith, refl, refl)

pub returns-then-values-k : goal.returns-then-values-k
returns-then-values-k c =
    let a = c.args in
    let l = c.loop-k in
    let some = length-take a.components a.values.now in
    sym (items-end word _ (take a.components a.values.now) (l.out, l.at) l.k l.invariant.2 (omega (arith, c.if-values-k.true)))

pub loop-k-preserved : goal.loop-k-preserved
loop-k-preserved c =
    let a = c.args in
    let l = c.loop-k in
    let h = c.loop-k-test.true in
    let some = length-take a.components a.values.now in
    let same = get_or-take a.components a.values.now l.k 0 h in
    let x = c.put_word-at.ensures ∙ ap (λ (v : ℕ). put_all (l.out, l.at) (word v)) (c.from.ensures ∙ sym same) in
    (omega arith, search rules, items-turn word _ (take a.components a.values.now) (l.out, l.at) l.k l.invariant.2 (omega (arith, h, c.if-values-k.false)) x)

pub returns : goal.returns
returns c =
    let a = c.args in
    let l = c.loop-k in
    let some = length-take a.components a.values.now in
    sym (items-end word _ (take a.components a.values.now) (l.out, l.at) l.k l.invariant.2 (omega (arith, c.loop-k-test.false)))
