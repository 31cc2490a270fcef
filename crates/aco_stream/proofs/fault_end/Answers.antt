use Prim.Native.Nat.{ℕ}
use mathlib.Core.Path.{ap, ◌∙◌}
use native.Mathlib.Omega.{arith}
use Rattle.algebra.specs.Table.{refused}
use Rattle.aco_stream.proofs.Calls.{known-near, known-none}
use Rattle.aco_stream.proofs.fault_end.Goals as goal

pub returns-in-Some : goal.returns-in-Some
returns-in-Some c =
    let a = c.args in
    let k = c.in-Some.ensures in
    ap (λ (x : ℕ). refused x a.place a.rec a.field) k.0 ∙ known-near a.number a.place a.rec a.field (λ z. omega (arith, k.1, z)) k.2

pub returns-in-None : goal.returns-in-None
returns-in-None c = let a = c.args in known-none a.number a.place a.rec a.field c.in-None.ensures
