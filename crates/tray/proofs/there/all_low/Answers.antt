use mathlib.Core.Path.{sym, ◌∙◌}
use native.Mathlib.Omega.{arith}
use borrow.Author.Tests.{eqb-true}
use Rattle.tray.specs.scaffold.Parts.{low}
use Rattle.tray.proofs.Laws.{passed-more, or-none, low-none}
use Rattle.tray.proofs.there.all_low.Goals as goal

pub loop-sample-init : goal.loop-sample-init
loop-sample-init c = λ e j h. absurd (omega arith)

pub loop-sample-preserved : goal.loop-sample-preserved
loop-sample-preserved c = let l = c.loop-sample in λ e. let none = or-none l.high c.from-high.result e in passed-more low c.args.samples.now l.sample-index (l.invariant none.0) (low-none _ (sym c.from-high.ensures ∙ none.1))

pub returns : goal.returns
returns c = λ e j h. c.loop-sample.invariant (eqb-true _ _ e) j (omega arith)
