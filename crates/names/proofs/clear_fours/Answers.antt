use Rattle.std.proofs.Common.{◌≡◌, ◌+◌, ◌*◌, ◌/◌, arith}
use Rattle.algebra.proofs.Lanes.{clear-start, clear-join}
use Rattle.names.proofs.clear_fours.Goals as goal

pub loop-i-init : goal.loop-i-init
loop-i-init c = (omega arith, clear-start _ _)

pub returns-then-not-is_clear : goal.returns-then-not-is_clear
returns-then-not-is_clear c = c.loop-i.invariant

pub loop-i-preserved : goal.loop-i-preserved
loop-i-preserved c =
    let l = c.loop-i in
    let e : 32 * (l.i + 1) ≡ 32 * l.i + 32 = omega arith in
    (omega arith, rw e (clear-join _ _ (32 * l.i) 32 l.invariant.1 (c.is_clear.ensures c.if-not-is_clear.false)))

pub returns : goal.returns
returns c = let e : c.args.k / 32 ≡ c.loop-i.i = omega arith in rw e c.loop-i.invariant
