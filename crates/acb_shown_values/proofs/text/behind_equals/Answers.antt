use mathlib.Core.Path.{sym}
use native.Mathlib.Omega.{arith}
use Rattle.algebra.proofs.Laws.{field_next}
use Rattle.fault.proofs.Exit.{short}
use Rattle.acb_shown_values.proofs.Starting.{search-start, search-found, search-on, search-end}
use Rattle.acb_shown_values.proofs.text.behind_equals.Goals as goal

pub loop-unit-init : goal.loop-unit-init
loop-unit-init c = (omega arith, search-start c.args.string.now)

pub returns-then-unit-eq-EQUALS : goal.returns-then-unit-eq-EQUALS
returns-then-unit-eq-EQUALS c =
    let l = c.loop-unit in
    let a = c.args in
    sym (search-found _ a.string.now l.at l.invariant.1 c.in-Ok.ensures c.if-unit-eq-EQUALS.true)

pub loop-unit-smaller : goal.loop-unit-smaller
loop-unit-smaller c =
    let f = field_next 2 _ _ _ _ c.in-Ok.ensures in
    omega arith

pub loop-unit-preserved : goal.loop-unit-preserved
loop-unit-preserved c =
    let l = c.loop-unit in
    let a = c.args in
    let f = field_next 2 _ _ _ _ c.in-Ok.ensures in
    (omega arith, search-on _ a.string.now l.at l.invariant.1 c.in-Ok.ensures c.if-unit-eq-EQUALS.false)

pub returns : goal.returns
returns c =
    let l = c.loop-unit in
    let a = c.args in
    sym (search-end _ a.string.now l.at l.invariant.1 (short 2 a.string.now l.at c.in_default.ensures))
