use Prim.Native.Nat.{ℕ}
use mathlib.Core.Path.{sym, ap, ◌∙◌}
use native.Mathlib.Omega.{arith}
use Rattle.acb.proofs.Laws.{components-some}
use Rattle.acb_read.specs.scaffold.Parts.{whole_at}
use Rattle.acb_read.proofs.step_at.Goals as goal

pub whole_at-next-requires : goal.whole_at-next-requires
whole_at-next-requires c =
    let n = c.components_of-n.ensures in
    (omega (arith, n, (components-some c.args.space).0), omega (arith, n, c.in-Some.ensures.1))

pub returns-in-Some : goal.returns-in-Some
returns-in-Some c =
    let a = c.args in
    c.whole_at-next.ensures ∙ ap (λ (k : ℕ). whole_at k a.file.now c.in-Some.name.first c.in-Some.name.units) c.components_of-n.ensures ∙ sym c.in-Some.ensures.0

pub returns-in-None : goal.returns-in-None
returns-in-None c = c.lost.ensures ∙ sym c.in-None.ensures
