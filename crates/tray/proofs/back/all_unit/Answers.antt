use mathlib.Core.Path.{sym, ◌∙◌}
use native.Mathlib.Omega.{arith}
use borrow.Author.Tests.{eqb-true}
use Rattle.tray.specs.scaffold.Parts.{unit}
use Rattle.tray.proofs.Laws.{passed-more, or-none, marked-none}
use Rattle.tray.proofs.back.all_unit.Goals as goal

pub loop-channel-init : goal.loop-channel-init
loop-channel-init c = λ e j h. absurd (omega arith)

pub loop-channel-preserved : goal.loop-channel-preserved
loop-channel-preserved c = let l = c.loop-channel in λ e. let none = or-none l.any c.from-any.result e in passed-more unit c.args.bits.now l.channel-index (l.invariant none.0) (sym c.is_channel.ensures ∙ marked-none _ (sym c.from-any.ensures ∙ none.1))

pub returns : goal.returns
returns c = λ e j h. c.loop-channel.invariant (eqb-true _ _ e) j (omega arith)
