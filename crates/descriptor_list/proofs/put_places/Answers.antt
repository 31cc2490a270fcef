use borrow.Author.Rules.{rules}
use native.Mathlib.Omega.{arith}
use Prim.Native.Nat.{ℕ}
use mathlib.Core.Path.{refl, sym, ap, ◌∙◌}
use Rattle.listing.specs.Buffer.{put_all}
use Rattle.listing.specs.Text.{word}
use Rattle.descriptor_list.proofs.Listed.{place-turn, place_end}
use Rattle.descriptor_list.proofs.put_places.Goals as goal

pub loop-k-init : goal.loop-k-init
loop-k-init c = (omega arith, omega arith, refl, refl)

pub loop-k-preserved : goal.loop-k-preserved
loop-k-preserved c =
    let l = c.loop-k in
    let x = c.put_word-at.ensures ∙ ap (λ (v : ℕ). put_all (l.out, l.at) (word v)) c.from.ensures in
    (omega arith, omega arith, search rules, place-turn c.args.row.now c.requires _ (l.out, l.at) l.k l.invariant.0 (omega (arith, c.loop-k-test.true)) l.invariant.3 x)

pub returns : goal.returns
returns c =
    let l = c.loop-k in
    sym (place_end c.args.row.now c.requires _ (l.out, l.at) l.k (omega (arith, c.loop-k-test.false)) l.invariant.3)
