use borrow.Author.Rules.{rules}
use lib.ListN.{get_or}
use mathlib.Core.Path.{refl, sym}
use Rattle.listing.specs.Text.{hex}
use Rattle.listing.proofs.Putting.{items-turn, items-end}
use Rattle.listing.proofs.Wording.{put-hex}
use native.Mathlib.Omega.{arith}
use Rattle.listing.proofs.put_bytes.Goals as goal

pub loop-b-init : goal.loop-b-init
loop-b-init c = (refl, refl)

pub loop-b-preserved : goal.loop-b-preserved
loop-b-preserved c =
    let small = c.type_inv.bytes c.loop-b.b-index in
    let two = put-hex _ (get_or c.args.bytes.now c.loop-b.b-index 0) (omega arith) c.glyph.ensures c.glyph-in-loop-b.ensures c.put-at.ensures c.put-at-in-loop-b.ensures in
    (search rules, items-turn hex _ c.args.bytes.now _ c.loop-b.b-index c.loop-b.invariant.1 (omega arith) two)

pub returns : goal.returns
returns c = sym (items-end hex _ c.args.bytes.now _ c.loop-b.b-index c.loop-b.invariant.1 c.loop-b-test.false)
