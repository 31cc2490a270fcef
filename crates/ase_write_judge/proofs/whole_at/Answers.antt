use Prim.Native.Nat.{ℕ, ◌+◌, ◌*◌, ◌-◌}
use mathlib.Core.Path.{◌≡◌, ap, ◌∙◌}
use lib.ListN.{take, drop}
use native.Mathlib.Omega.{arith}
use Rattle.ase.specs.Row.{width, taken}
use Rattle.ase_write_judge.proofs.whole_at.Goals as goal

pub returns : goal.returns
returns c =
    let a = c.args in
    let e : width * a.k + width - width * a.k ≡ width = omega arith in
    c.taken_from.ensures ∙ ap (λ (n : ℕ). taken (take n (drop (width * a.k) a.run.now))) e
