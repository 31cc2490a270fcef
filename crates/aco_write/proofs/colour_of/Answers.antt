use mathlib.Core.Path.{sym, ap}
use mathlib.Core.List.{List, map}
use Prim.Native.Nat.{ℕ, ◌%◌}
use native.Mathlib.Omega.{arith}
use Rattle.colour.specs.declared.space.Colour.{Colour}
use Rattle.aco.proofs.Row.{four}
use Rattle.aco_write.proofs.colour_of.Goals as goal

pub returns : goal.returns
returns c =
    let g = c.args.given in
    let of : List ℕ → Colour = λ vs. record { space = g.space % 65536; samples = map (λ (v : ℕ). v % 65536) vs } in
    rw (c.low-a.ensures, c.low-b.ensures, c.low-c.ensures, c.low-d.ensures, c.low.ensures) (ap of (sym (four g.samples (omega arith))))
