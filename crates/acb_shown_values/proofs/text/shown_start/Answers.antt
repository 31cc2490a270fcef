use mathlib.Core.Path.{sym, ◌∙◌}
use Rattle.fault.proofs.Exit.{short}
use Rattle.acb_shown_values.proofs.Starting.{start-short, start-unmarked, start-marked}
use Rattle.acb_shown_values.proofs.text.shown_start.Goals as goal

pub returns-in_default : goal.returns-in_default
returns-in_default c = sym (start-short c.args.string.now (short 8 c.args.string.now 0 c.in_default.ensures))

pub returns-then-four-ne-MARK : goal.returns-then-four-ne-MARK
returns-then-four-ne-MARK c = sym (start-unmarked _ c.in-Ok.ensures c.if-four-ne-MARK.true)

pub returns : goal.returns
returns c = c.behind_equals.ensures ∙ sym (start-marked _ c.in-Ok.ensures c.if-four-ne-MARK.false)
