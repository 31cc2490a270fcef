use Rattle.std.proofs.Common.{sym, ◌∙◌, arith}
use Rattle.algebra.proofs.Lanes.{clear-start, glance-on, glance-end}
use Rattle.names.proofs.is_clear.Goals as goal

pub loop-i-init : goal.loop-i-init
loop-i-init c = (omega arith, λ m. clear-start _ _)

pub loop-i-preserved : goal.loop-i-preserved
loop-i-preserved c =
    let l = c.loop-i in
    let a = c.args in
    (omega arith, glance-on a.s.now a.at l.found _ l.i l.invariant.1 (λ m. sym c.four_at.ensures ∙ c.less-found.ensures m))

pub returns : goal.returns
returns c =
    let l = c.loop-i in
    let a = c.args in
    glance-end a.s.now a.at l.found l.i (omega arith) c.loop-i-test.false l.invariant.1
