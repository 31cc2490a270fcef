use mathlib.Core.Path.{sym}
use native.Mathlib.Omega.{arith}
use lib.ListN.{length}
use Rattle.listing.proofs.Putting.{put-behind, put-anew, put-nowhere, handed-all}
use Rattle.listing.proofs.put.Goals as goal

pub returns-then-n-out : goal.returns-then-n-out
returns-then-n-out c = sym (put-behind _ _ _ c.if-n-out.true)

pub bounds-out-0 : goal.bounds-out-0
bounds-out-0 c =
    let out = c.args.out.now in
    omega (arith, c.if-finish-gt0.true, handed-all _ (length out) c.finish.ensures (omega arith))

pub returns-then-finish-gt0 : goal.returns-then-finish-gt0
returns-then-finish-gt0 c =
    let out = c.args.out.now in
    sym (put-anew _ _ _ c.if-n-out.false (omega (arith, c.if-finish-gt0.true, handed-all _ (length out) c.finish.ensures (omega arith))))

pub returns : goal.returns
returns c =
    let out = c.args.out.now in
    sym (put-nowhere _ _ _ c.if-n-out.false (omega (arith, c.if-finish-gt0.false, handed-all _ (length out) c.finish.ensures (omega arith))))
