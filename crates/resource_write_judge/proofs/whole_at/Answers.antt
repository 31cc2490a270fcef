use mathlib.Core.Path.{refl}
use Prim.Native.Nat.{◌+◌, ◌*◌}
use native.Mathlib.Omega.{arith}
use Rattle.resource_write_judge.proofs.Judging.{row-taken}
use Rattle.resource_write_judge.proofs.whole_at.Goals as goal

pub returns : goal.returns
returns c =
    let run = c.args.run.now in
    let k = c.args.k in
    let l = c.type_inv.run (5 * k + 2) in
    let e = c.type_inv.run (5 * k + 4) in
    (row-taken run k _ _ _ _ _ refl refl refl refl refl, (omega arith, omega arith))
