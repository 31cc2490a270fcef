use Rattle.std.proofs.Common.{sym, ◌∙◌, arith, eq-eqb, ne_eqb}
use Rattle.algebra.proofs.Texts.{swapped-zero, any-start, any_found, any-on, any-end}
use Rattle.names.proofs.any_one_by_one.Goals.{then-swapped-eq0, else-swapped-eq0}
use Rattle.names.proofs.any_one_by_one.Goals as goal

pub loop-i-init : goal.loop-i-init
loop-i-init c = (omega arith, any-start _ _ _)

pub loop-i-preserved : goal.loop-i-preserved
loop-i-preserved c =
    let l = c.loop-i in
    let a = c.args in
    let e = sym (swapped-zero _ _ c.swapped.ensures) in (
      omega arith,
      elim c.if-swapped-eq0.branch [
        | then-swapped-eq0 w ↦ rw w.found-is (any_found a.s.now a.at a.n _ l.found l.i l.invariant.1 c.loop-i-test.true (e ∙ eq-eqb _ _ w.if-swapped-eq0.true))
        | else-swapped-eq0 w ↦ rw w.found-is (any-on a.s.now a.at a.n _ l.found l.i l.invariant.1 c.loop-i-test.true (e ∙ ne_eqb _ _ w.if-swapped-eq0.false))
      ],
    )

pub returns : goal.returns
returns c =
    let l = c.loop-i in
    let a = c.args in
    sym (any-end a.s.now a.at a.n _ l.found l.i l.invariant.1 c.loop-i-test.false)
