use lib.ListN.{length}
use native.Mathlib.Omega.{arith}
use mathlib.Core.Path.{ap}
use Rattle.resource_read.proofs.Going.{some-left, turned, index-end, index-here, index-next, found-start}
use Rattle.resource_read.proofs.index_of.Goals as goal

pub loop-i-init : goal.loop-i-init
loop-i-init c = (c.requires.0, omega (arith, c.requires.1), found-start _ _)

pub given_at-next-requires : goal.given_at-next-requires
given_at-next-requires c =
    let l = c.loop-i in
    (l.invariant.0, some-left c.args.file.now l.at l.invariant.0 (omega (arith, l.invariant.1, c.loop-i-test.true)))

pub returns-then-given-id : goal.returns-then-given-id
returns-then-given-id c =
    let l = c.loop-i in
    let s = c.args.file.now in
    let more = some-left s l.at l.invariant.0 (omega (arith, l.invariant.1, c.loop-i-test.true)) in
    let x = turned s l.at l.invariant.0 more c.given_at-next.ensures in
    index-here s l.at l.i _ _ l.invariant.0 l.invariant.2 more x c.if-given-id.true

pub loop-i-preserved : goal.loop-i-preserved
loop-i-preserved c =
    let l = c.loop-i in
    let s = c.args.file.now in
    let more = some-left s l.at l.invariant.0 (omega (arith, l.invariant.1, c.loop-i-test.true)) in
    let x = turned s l.at l.invariant.0 more c.given_at-next.ensures in
    (x.sound, omega (arith, l.invariant.1, ap length x.all), index-next s l.at l.i _ _ l.invariant.0 l.invariant.2 more x c.if-given-id.false)

pub returns : goal.returns
returns c =
    let l = c.loop-i in
    index-end c.args.file.now l.at l.i _ _ l.invariant.0 l.invariant.2 (omega (arith, l.invariant.1, c.loop-i-test.false))
