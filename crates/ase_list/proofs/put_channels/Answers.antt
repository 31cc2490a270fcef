use borrow.Author.Rules.{rules}
use native.Mathlib.Omega.{arith}
use mathlib.Core.Path.{refl, sym}
use Rattle.listing.proofs.Putting.{put_one, put_both, items-turn, items-end}
use Rattle.ase_list.specs.Listing.{channel}
use Rattle.ase_list.proofs.put_channels.Goals as goal

pub loop-bits-init : goal.loop-bits-init
loop-bits-init c = (refl, refl)

pub loop-bits-preserved : goal.loop-bits-preserved
loop-bits-preserved c =
    let one = put_both _ _ _ (put_one _ _ c.put-at.ensures) c.put_bits-at.ensures in
    (search rules, items-turn channel _ c.args.channels.now _ c.loop-bits.bits-index c.loop-bits.invariant.1 (omega arith) one)

pub returns : goal.returns
returns c = sym (items-end channel _ c.args.channels.now _ c.loop-bits.bits-index c.loop-bits.invariant.1 c.loop-bits-test.false)
