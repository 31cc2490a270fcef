use Prim.Native.Nat.{ℕ, ◌%◌, ◌≤◌, ◌<◌}
use mathlib.Core.Path.{◌≡◌, refl, sym, ◌∙◌, subst}
use mathlib.Core.Bool.{Bool, not}
use native.Mathlib.Omega.{arith}
use borrow.Author.Tests.{lt-ltb, lt-leb, le-leb}
use lib.Dec.{T}
use lib.Ieee.{binary32, fits, is_nan, nan_bits, of_bits}
use lib.Ieee.Bits.{nan_bits_is, of_bits-fits}
use lib.Ieee.Fits.{and_i, fits_widens}
use Rattle.algebra.proofs.Floats.{finite-bits, no_nan}
use Rattle.conversion.specs.Scale.{sample_of, sample_of_bits}
use Rattle.convert.proofs.Nearest.{product-number, raised-sample}
use Rattle.convert.proofs.scale.nearest.Goals as goal

behind : (n b : ℕ) → 0x3f80_0000 < b → 0 ≡ sample_of_bits n b
behind n b h = rw (lt-leb b 0x3f80_0000 h)

within : (n b r : ℕ) → b ≤ 0x3f80_0000 → r ≡ sample_of n (of_bits binary32 b) → r ≡ sample_of_bits n b
within n b r h e = rw (le-leb b 0x3f80_0000 h) e

number : (b : ℕ) → b ≤ 0x3f80_0000 → T (not (nan_bits binary32 b))
number b h = no_nan binary32 b (finite-bits binary32 b ∙ lt-ltb (b % 0x8000_0000) 0x7f80_0000 (small b h))
  where
    small : (b : ℕ) → b ≤ 0x3f80_0000 → b % 0x8000_0000 < 0x7f80_0000
    small b h = omega arith

pub returns-then-bits-gt-ONE : goal.returns-then-bits-gt-ONE
returns-then-bits-gt-ONE c = behind c.args.full c.args.bits c.if-bits-gt-ONE.true

pub float_from_bits-product : goal.float_from_bits-product
float_from_bits-product c = number c.args.bits c.if-bits-gt-ONE.false

pub float_to_float-product : goal.float_to_float-product
float_to_float-product c =
    let b = c.args.bits in
    and_i (fits _ (of_bits binary32 b)) (not (is_nan (of_bits binary32 b))) (fits_widens (of_bits binary32 b) (of_bits-fits binary32 b)) (subst (λ (x : Bool). T (not x)) (nan_bits_is binary32 b) (number b c.if-bits-gt-ONE.false))

pub float_to_bits-result : goal.float_to_bits-result
unfolding of_bits
float_to_bits-result c = subst (λ (x : Bool). T (not x)) (sym (product-number c.args.full c.args.bits _ c.requires c.if-bits-gt-ONE.false refl)) tt

pub returns : goal.returns
returns c =
    within c.args.full c.args.bits _ c.if-bits-gt-ONE.false (raised-sample c.args.full c.args.bits c.requires c.if-bits-gt-ONE.false)
