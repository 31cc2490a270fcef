use Rattle.std.proofs.Common.{sym, ◌∙◌, arith}
use Rattle.algebra.specs.Lanes.{any_high_bit, every}
use Rattle.algebra.proofs.Lanes.{fours-start, fours-on, fours-end}
use Rattle.names.proofs.any_in_fours.Goals as goal

pub loop-i-init : goal.loop-i-init
loop-i-init c = (omega arith, fours-start _ _ _)

pub loop-i-preserved : goal.loop-i-preserved
loop-i-preserved c =
    let l = c.loop-i in
    let a = c.args in (
      omega arith,
      fours-on a.s.now a.at a.k _ l.found l.i l.invariant.1 _ c.loop-i-test.true (c.marks-found.ensures ∙ c.four_at.ensures),
    )

pub returns : goal.returns
unfolding any_high_bit every
returns c =
    let l = c.loop-i in
    let a = c.args in
    sym (fours-end a.s.now a.at a.k _ l.found l.i l.invariant.1 c.loop-i-test.false)
