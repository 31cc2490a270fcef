use borrow.Author.Rules.{rules}
use native.Mathlib.Omega.{arith}
use mathlib.Core.Path.{refl, sym}
use Rattle.listing.proofs.Putting.{text-turn, text-end}
use Rattle.listing.proofs.put_text.Goals as goal

pub loop-b-init : goal.loop-b-init
loop-b-init c = (refl, refl)

pub loop-b-preserved : goal.loop-b-preserved
loop-b-preserved c =
    (search rules, text-turn _ c.args.text.now _ c.loop-b.b-index c.loop-b.invariant.1 (omega arith) c.put-at.ensures)

pub returns : goal.returns
returns c = sym (text-end _ c.args.text.now _ c.loop-b.b-index c.loop-b.invariant.1 c.loop-b-test.false)
