use Prim.Native.Nat.{ℕ, ◌+◌}
use mathlib.Core.Path.{ap, ◌∙◌}
use native.Mathlib.Omega.{arith}
use Rattle.ase_read.proofs.Blocks.{load-in}
use Rattle.ase_read.proofs.block_end.Goals as goal

pub returns : goal.returns
returns c =
    let a = c.args in
    ap (λ (k : ℕ). a.at + 6 + k) (c.number_or_zero-length.ensures ∙ load-in 4 a.file.now (a.at + 2) (omega (arith, c.requires.0)))
