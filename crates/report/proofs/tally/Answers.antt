use native.Mathlib.Omega.{arith}
use Rattle.report.proofs.Laws.{tally-past, tally-at}
use Rattle.report.proofs.tally.Goals as goal

pub returns-then-k-ge-TOTALS : goal.returns-then-k-ge-TOTALS
returns-then-k-ge-TOTALS c = let a = c.args in tally-past a.totals.now a.k a.n c.requires.0 c.if-k-ge-TOTALS.true

pub returns : goal.returns
returns c = tally-at c.args.totals.now c.args.k c.args.n c.requires.0 (omega (arith, c.if-k-ge-TOTALS.false))
