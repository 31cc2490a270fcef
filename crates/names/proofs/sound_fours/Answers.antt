use Rattle.std.proofs.Common.{sym, ◌∙◌, ◌≡◌, ◌+◌, ◌*◌, ◌/◌, arith}
use Rattle.algebra.proofs.Lanes.{clear-start, clear-join}
use Rattle.names.proofs.sound_fours.Goals as goal

pub loop-i-init : goal.loop-i-init
loop-i-init c = (omega arith, clear-start _ _)

pub returns-then-any_in_fours : goal.returns-then-any_in_fours
returns-then-any_in_fours c = c.loop-i.invariant

pub loop-i-preserved : goal.loop-i-preserved
loop-i-preserved c =
    let l = c.loop-i in
    let e : 32 * (l.i + 1) ≡ 32 * l.i + 32 = omega arith in
    (omega arith, rw e (clear-join _ _ (32 * l.i) 32 l.invariant.1 (sym c.any_in_fours.ensures ∙ c.if-any_in_fours.false)))

pub returns : goal.returns
returns c = let e : c.args.k / 32 ≡ c.loop-i.i = omega arith in rw e c.loop-i.invariant
