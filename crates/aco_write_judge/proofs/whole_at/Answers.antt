use Prim.Native.Nat.{ℕ, ◌+◌, ◌*◌, ◌-◌}
use mathlib.Core.Path.{◌≡◌, ap, ◌∙◌}
use native.Mathlib.Omega.{arith}
use Rattle.algebra.specs.Store.{part}
use Rattle.aco.specs.Row.{width, taken}
use Rattle.aco_write_judge.proofs.whole_at.Goals as goal

pub returns : goal.returns
returns c =
    let a = c.args in
    let w : width * a.k + width - width * a.k ≡ width = omega arith in
    c.record_of.ensures ∙ ap (λ (n : ℕ). taken (part a.run.now (width * a.k) n)) w
