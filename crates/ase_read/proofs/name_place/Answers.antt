use Prim.Native.Nat.{◌+◌, ◌-◌, ◌^◌, min}
use mathlib.Core.Path.{◌≡◌, sym, ap, ◌∙◌}
use mathlib.Core.Bool.{Bool}
use native.Mathlib.Omega.{arith}
use borrow.Author.Tests.{eq-eqb, ne_eqb}
use Rattle.algebra.specs.Reader.{pick}
use Rattle.ase_read.proofs.name_place.Goals as goal

pub returns-then-count-eq0 : goal.returns-then-count-eq0
returns-then-count-eq0 c = (sym (ap (λ (b : Bool). pick b 0 (min (c.args.at + 8) (2 ^ 64 - 1))) (eq-eqb _ _ c.if-count-eq0.true)), omega arith)

pub returns : goal.returns
returns c =
    let e : c.saturating_add.result ≡ min (c.args.at + 8) (2 ^ 64 - 1) = omega arith in
    (e ∙ sym (ap (λ (b : Bool). pick b 0 (min (c.args.at + 8) (2 ^ 64 - 1))) (ne_eqb _ _ c.if-count-eq0.false)), omega arith)
