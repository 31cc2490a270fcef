use native.Mathlib.Omega.{arith}
use Rattle.unicode_text.proofs.Laws.{taken-some}
use Rattle.unicode_utf8.proofs.Loops.{fill_start, fill_one, fill-ascii, fill-room, fill-next, fill_end}
use Rattle.unicode_utf8.proofs.units.fill.Goals as goal

pub loop-i-init : goal.loop-i-init
loop-i-init g c = let A = c.args in fill_start (g.U.Units.units A.units) A.out.now c.requires.1

pub bounds-out-n : goal.bounds-out-n
bounds-out-n g c = let A = c.args in let l = c.loop-i in fill_one (g.U.Units.units A.units) A.out.now l.out l.n l.i l.invariant (omega (arith, c.many-end.ensures.0)) c.unit_at-u.result c.unit_at-u.ensures.0 c.if-u-lt-ONE_BYTE.true

pub loop-i-preserved-then-u-lt-ONE_BYTE : goal.loop-i-preserved-then-u-lt-ONE_BYTE
loop-i-preserved-then-u-lt-ONE_BYTE g c = let A = c.args in let l = c.loop-i in fill-ascii (g.U.Units.units A.units) A.out.now l.out l.n l.i l.invariant (omega (arith, c.many-end.ensures.0)) c.unit_at-u.result c.unit_at-u.ensures.0 c.if-u-lt-ONE_BYTE.true

pub put-n-requires : goal.put-n-requires
put-n-requires g c = let A = c.args in let l = c.loop-i in (c.scalar_at.ensures.1, fill-room (g.U.Units.units A.units) A.out.now l.out l.n l.i l.invariant (omega (arith, c.many-end.ensures.0)) c.unit_at-u.result c.unit_at-u.ensures.0 c.unit_at-v.result c.scalar_at.result c.unit_at-v.ensures.0 c.scalar_at.ensures.0)

pub overflow_add-i-in-loop-i-2 : goal.overflow_add-i-in-loop-i-2
overflow_add-i-in-loop-i-2 g c = let A = c.args in let z = taken-some c.unit_at-u.result c.unit_at-v.result in omega (arith, c.taken_at-i.ensures.0)

pub loop-i-preserved : goal.loop-i-preserved
loop-i-preserved g c = let A = c.args in let l = c.loop-i in fill-next (g.U.Units.units A.units) A.out.now l.out l.n l.i l.invariant (omega (arith, c.many-end.ensures.0)) c.unit_at-u.result c.unit_at-u.ensures.0 c.unit_at-v.result c.scalar_at.result c.unit_at-v.ensures.0 c.scalar_at.ensures.0 _ _ c.taken_at-i.result c.taken_at-i.ensures.0 c.put-n.ensures.0 c.put-n.ensures.1

pub returns : goal.returns
returns g c = let A = c.args in let l = c.loop-i in fill_end (g.U.Units.units A.units) A.out.now l.out l.n l.i l.invariant (omega (arith, c.many-end.ensures.0))
