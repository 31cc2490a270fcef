use Prim.Native.Nat.{ℕ, ◌+◌, ◌*◌, ◌-◌, ◌≤◌, ◌<◌}
use mathlib.Core.Path.{◌≡◌, sym, ap, ◌∙◌}
use native.Mathlib.Omega.{arith}
use lib.ListN.{length}
use Rattle.algebra.specs.Reader.{field, or_zero}
use Rattle.aco_pass.proofs.Passing.{none-zero, closes, pos}
use Rattle.aco_pass.proofs.name_end.Goals as goal

pub returns-in-Ok : goal.returns-in-Ok
returns-in-Ok c =
    let a = c.args in
    let some : 0 < a.m = pos c.if-m-eq0.false in
    let room : a.at + a.m * 2 ≤ length a.bytes.now = omega (arith, c.if-rest-m.false, c.requires.0) in
    let closed : c.number_or_zero.result ≡ 0 = omega arith in
    let e : a.at + 2 * (a.m - 1) ≡ a.at + (a.m - 1) * 2 = omega arith in
    closes a.m a.bytes.now a.at _ some (omega (arith, some)) room
    (sym (none-zero a.bytes.now a.at (a.m - 1) (omega (arith, some, room)) c.in-Ok.ensures))
    (ap (λ (k : ℕ). or_zero (field 2 a.bytes.now k)) (sym e) ∙ sym c.number_or_zero.ensures ∙ closed)
