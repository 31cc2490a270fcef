use mathlib.Core.Path.{◌∙◌}
use Rattle.aco_items.proofs.Steps.{last-twice, last-closes, last-open, more-zero, more-other}
use Rattle.aco_items.proofs.unit_of.Goals as goal

pub returns-then-zero : goal.returns-then-zero
returns-then-zero c = let a = c.args in last-twice a.count a.index a.place a.left a.zero a.u c.if-left-eq1.true c.if-u-eq0.true c.if-zero.true

pub returns-then-u-eq0 : goal.returns-then-u-eq0
returns-then-u-eq0 c = let a = c.args in c.entries_of.ensures ∙ last-closes a.count a.index a.place a.left a.zero a.u c.if-left-eq1.true c.if-u-eq0.true c.if-zero.false

pub returns-then-left-eq1 : goal.returns-then-left-eq1
returns-then-left-eq1 c = let a = c.args in last-open a.count a.index a.place a.left a.zero a.u c.if-left-eq1.true c.if-u-eq0.false

pub returns-then-u-eq0-2 : goal.returns-then-u-eq0-2
returns-then-u-eq0-2 c = let a = c.args in more-zero a.count a.index a.place a.left a.zero a.u c.if-left-eq1.false c.if-u-eq0-2.true _ c.saturating_sub-rest.ensures

pub returns : goal.returns
returns c = let a = c.args in more-other a.count a.index a.place a.left a.zero a.u c.if-left-eq1.false c.if-u-eq0-2.false _ c.saturating_sub-rest.ensures
