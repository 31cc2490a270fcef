use borrow.Author.Rules.{rules}
use native.Mathlib.Omega.{arith}
use mathlib.Core.Path.{refl, sym}
use Rattle.ase_walk.specs.Walking.{first_place}
use Rattle.listing.proofs.Putting.{put_both, put_last}
use Rattle.ase_list.proofs.Listed.{lines_start, line-turn, lines_end}
use Rattle.ase_list.proofs.put_blocks.Goals as goal

pub loop-i-init : goal.loop-i-init
loop-i-init c =
    let a = c.args in
    (omega arith, refl, lines_start a.file.now _ (a.out.now, a.n) a.blocks 0 (first_place a.file.now) c.first_at-p.ensures refl)

pub loop-i-preserved : goal.loop-i-preserved
loop-i-preserved c =
    let a = c.args in
    let x = put_last _ _ _ (put_both _ _ _ c.put_number-at.ensures c.put_block-at.ensures) c.put-at.ensures in
    (omega arith, search rules, line-turn a.file.now _ (c.loop-i.out, c.loop-i.at) a.blocks c.loop-i.i c.loop-i.p c.loop-i.invariant.2 _ _ c.loop-i-test.true c.block_at-step.ensures x)

pub returns : goal.returns
returns c =
    let a = c.args in
    sym (lines_end a.file.now _ (c.loop-i.out, c.loop-i.at) a.blocks c.loop-i.i c.loop-i.p c.loop-i.invariant.2 c.loop-i-test.false)
