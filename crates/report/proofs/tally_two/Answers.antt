use native.Mathlib.Omega.{arith}
use Rattle.report.proofs.Laws.{grown, two-added}
use Rattle.report.proofs.tally_two.Goals as goal

pub tally-requires : goal.tally-requires
tally-requires c = (c.requires.long, omega (arith, c.requires.below c.args.a))

pub tally-requires-2 : goal.tally-requires-2
tally-requires-2 c =
    let a = c.args in
    let l = grown a.totals.now _ a.a c.requires c.tally.ensures in
    (l.long, omega (arith, l.below a.b))

pub returns : goal.returns
returns c =
    let a = c.args in
    two-added a.totals.now _ _ a.a a.b c.tally.ensures c.tally-2.ensures
