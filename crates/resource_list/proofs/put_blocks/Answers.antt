use borrow.Author.Rules.{rules}
use lib.ListN.{length}
use native.Mathlib.Omega.{arith}
use mathlib.Core.Path.{refl, sym, ap}
use Rattle.resource_read.proofs.Going.{never, some-left}
use Rattle.resource_list.proofs.Listed.{lines_end, listed_next, lines_next}
use Rattle.resource_list.proofs.put_blocks.Goals as goal

pub loop-i-init : goal.loop-i-init
loop-i-init c = (c.requires.0, omega (arith, c.requires.1), refl, refl)

pub returns-in_default : goal.returns-in_default
returns-in_default c =
    let l = c.loop-i in
    let a = c.args in
    let more = some-left a.section.now l.at l.invariant.0 (omega (arith, l.invariant.1, c.loop-i-test.true)) in
    never a.section.now l.at l.invariant.0 more c.in_default.ensures

pub put_block-full-requires : goal.put_block-full-requires
put_block-full-requires c =
    let l = c.loop-i in
    let a = c.args in
    let more = some-left a.section.now l.at l.invariant.0 (omega (arith, l.invariant.1, c.loop-i-test.true)) in
    let x = listed_next a.section.now a.first c.requires.2 l.at l.invariant.0 more c.in-Ok.ensures in
    x.lying

pub loop-i-preserved : goal.loop-i-preserved
loop-i-preserved c =
    let l = c.loop-i in
    let a = c.args in
    let more = some-left a.section.now l.at l.invariant.0 (omega (arith, l.invariant.1, c.loop-i-test.true)) in
    let x = listed_next a.section.now a.first c.requires.2 l.at l.invariant.0 more c.in-Ok.ensures in
    (x.sound, omega (arith, l.invariant.1, ap length x.all), search rules, lines_next a.section.now a.first c.requires.2 l.at l.invariant.0 more _ x _ (l.out, l.full) l.i l.invariant.3 c.put_block-full.ensures)

pub returns : goal.returns
returns c =
    let l = c.loop-i in
    let a = c.args in
    sym (lines_end a.section.now a.first c.requires.2 l.at l.invariant.0 _ (l.out, l.full) l.i (omega (arith, l.invariant.1, c.loop-i-test.false)) l.invariant.3)
