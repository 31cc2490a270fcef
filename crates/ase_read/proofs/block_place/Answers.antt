use mathlib.Core.Path.{◌≡◌, sym, ap, ◌∙◌}
use native.Mathlib.Omega.{arith}
use Rattle.ase_read.specs.scaffold.Raw.{block_place}
use Rattle.ase_read.proofs.Filling.{place-first, here}
use Rattle.ase_read.proofs.block_place.Goals as goal

pub loop-k-init : goal.loop-k-init
loop-k-init c = (omega arith, sym (place-first _))

pub block_end-at-requires : goal.block_end-at-requires
block_end-at-requires c = let h = here c.args.file.now c.args.n c.requires.0 c.loop-k._k (omega (arith, c.loop-k-test.true, c.requires.1)) c.loop-k.at c.loop-k.invariant.1 in (h.inside, h.short)

pub loop-k-preserved : goal.loop-k-preserved
loop-k-preserved c = (omega (arith, c.loop-k-test.true), c.block_end-at.ensures ∙ (here c.args.file.now c.args.n c.requires.0 c.loop-k._k (omega (arith, c.loop-k-test.true, c.requires.1)) c.loop-k.at c.loop-k.invariant.1).next)

pub returns : goal.returns
returns c = let l = c.loop-k in let e : l._k ≡ c.args.i = omega arith in l.invariant.1 ∙ ap (block_place _) e
