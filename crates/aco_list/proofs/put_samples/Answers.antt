use borrow.Author.Rules.{rules}
use native.Mathlib.Omega.{arith}
use Prim.Native.Nat.{ℕ}
use mathlib.Core.Path.{◌≡◌, refl, sym, ap, ◌∙◌}
use lib.ListN.{length}
use Rattle.listing.specs.Buffer.{put_all}
use Rattle.listing.specs.Text.{word}
use Rattle.listing.proofs.Putting.{items-turn, items-end}
use Rattle.aco_list.proofs.put_samples.Goals as goal

pub loop-v-init : goal.loop-v-init
loop-v-init c = (refl, refl)

pub loop-v-preserved : goal.loop-v-preserved
loop-v-preserved c =
    let l = c.loop-v in
    (search rules, items-turn word _ c.args.samples (l.out, l.at) l.v-index l.invariant.1 (omega arith) (c.put_word-at.ensures ∙ ap (λ (v : ℕ). put_all (l.out, l.at) (word v)) c.from.ensures))

pub returns : goal.returns
returns c =
    let four : length c.args.samples ≡ 4 = search rules in
    sym (items-end word _ c.args.samples _ c.loop-v.v-index c.loop-v.invariant.1 (omega (arith, c.loop-v-test.false)))
