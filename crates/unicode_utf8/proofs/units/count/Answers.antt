use native.Mathlib.Omega.{arith}
use Rattle.unicode_text.proofs.Laws.{taken-some}
use Rattle.unicode_utf8.proofs.Loops.{count-start, count-ascii, count_next, count-end}
use Rattle.unicode_utf8.proofs.units.count.Goals as goal

pub loop-i-init : goal.loop-i-init
loop-i-init g c = count-start _

pub overflow_add-n : goal.overflow_add-n
overflow_add-n g c = let A = c.args in let l = c.loop-i in omega (arith, l.invariant.few)

pub loop-i-preserved-then-u-lt-ONE_BYTE : goal.loop-i-preserved-then-u-lt-ONE_BYTE
loop-i-preserved-then-u-lt-ONE_BYTE g c = let A = c.args in let l = c.loop-i in count-ascii (g.U.Units.units A.units) l.n l.i l.invariant (omega (arith, c.many-end.ensures.0)) c.unit_at-u.result c.unit_at-u.ensures.0 c.if-u-lt-ONE_BYTE.true

pub overflow_add-n-in-loop-i : goal.overflow_add-n-in-loop-i
overflow_add-n-in-loop-i g c = let A = c.args in let l = c.loop-i in omega (arith, l.invariant.few, c.width-n.ensures.1)

pub overflow_add-i-in-loop-i-2 : goal.overflow_add-i-in-loop-i-2
overflow_add-i-in-loop-i-2 g c = let A = c.args in let z = taken-some c.unit_at-u.result c.unit_at-v.result in omega (arith, c.taken_at-i.ensures.0)

pub loop-i-preserved : goal.loop-i-preserved
loop-i-preserved g c = let A = c.args in let l = c.loop-i in count_next (g.U.Units.units A.units) l.n l.i l.invariant (omega (arith, c.many-end.ensures.0)) c.unit_at-u.result c.unit_at-u.ensures.0 c.unit_at-v.result c.scalar_at.result c.width-n.result c.taken_at-i.result c.unit_at-v.ensures.0 c.scalar_at.ensures.0 c.width-n.ensures.0 c.width-n.ensures.1 c.taken_at-i.ensures.0

pub returns : goal.returns
returns g c = let A = c.args in let l = c.loop-i in count-end (g.U.Units.units A.units) l.n l.i l.invariant (omega (arith, c.many-end.ensures.0))
