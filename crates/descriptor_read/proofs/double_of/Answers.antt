use Rattle.descriptor_read.proofs.Typing.{double-loaded}
use Rattle.algebra.proofs.Floats.{no_nan}
use lib.Ieee.Scale.{finite}
use lib.Ieee.{binary64, of_bits}
use mathlib.Core.Path.{ap, ◌∙◌}
use Prim.Native.Nat.{ℕ}
use Rattle.descriptor_read.proofs.double_of.Goals as goal

pub float_from_bits-result : goal.float_from_bits-result
float_from_bits-result c =
    let a = c.args in
    let e = double-loaded a.file.now a.at _ c.requires.0 c.number_or_zero-bits.ensures in
    no_nan binary64 _ (ap (λ (b : ℕ). finite (of_bits binary64 b)) e ∙ c.requires.1)

pub returns : goal.returns
returns c =
    let a = c.args in
    ap (of_bits binary64) (double-loaded a.file.now a.at _ c.requires.0 c.number_or_zero-bits.ensures)
