use Prim.Native.Nat.{ℕ}
use mathlib.Core.Path.{refl, ap, ◌∙◌}
use mathlib.Core.List.{List}
use native.Mathlib.Omega.{arith}
use Rattle.fault.specs.Fault.{number_of}
use Rattle.report.specs.Report.{one}
use Rattle.report.proofs.Counting.{zeros-at, begun}
use Rattle.report.proofs.refused.Goals as goal

pub tally-requires : goal.tally-requires
tally-requires c = (refl, omega (arith, zeros-at c.number.result))

pub returns : goal.returns
returns c =
    let e = c.args.refusal in
    ap (λ (t : List ℕ). record { number = number_of e.0; place = e.1; totals = t }) (begun _ c.number.result c.tally.ensures ∙ ap one c.number.ensures)
