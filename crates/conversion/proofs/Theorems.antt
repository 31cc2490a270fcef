-- What the conversions promise besides their equations. Assumes nothing.
use Prim.Native.Nat.{ℕ, suc, ◌+◌, ◌-◌, ◌*◌, ◌^◌, ◌≤◌, ◌<◌}
use mathlib.Core.Path.{◌≡◌, refl, sym, ap, ◌∙◌, subst}
use mathlib.Core.Bool.{Bool, true, false}
use native.Mathlib.Omega.{arith}
use native.Mathlib.Nat.{mul-pos, lt-suc_self, le_refl, le_antisymm, le_of_suc-le-suc, div-lt_iff_lt-mul, le-div_iff_mul-le}
use borrow.Author.Tests.{le-leb}
use lib.Dec.{T, lit<}
use lib.IntN.{pos}
use lib.Pow.{pow_pos}
use lib.Ieee.{binary32, of_bits, to_bits, of_int, round, le, lt, eq}
use lib.Ieee.Bits.{is_true, of_bits-to_bits}
use lib.Ieee.Fits.{div-fits}
use Rattle.colour.specs.Models.{traits_of, model_of}
use Rattle.colour.specs.Spaces.{uses, full, ranged, allowed}
use Rattle.colour.specs.Channels.{in_unit, allows}
use Rattle.conversion.specs.Scale.{channel_of, nearest_up, sample_of}
use Rattle.conversion.specs.Convert.{Converted, gives, refused, to_channel, to_sample, sample_by, sample_in, sample_on, back, Counterparts, lights, inks, grays}
use Rattle.colour.specs.declared.model.Model.{Model}
use Rattle.colour.specs.declared.model.Model.TheVariants.{Rgb, Cmyk, Gray}
use Rattle.conversion.proofs.Return.{samples-return, channel-in, channel-is, sample-most}

-- ---- 0.5 is 32,768 in RGB, 32,767 in CMYK and 5,000 in gray, and minus zero is zero

pub half-rgb : to_sample (traits_of Rgb).tag 0x3f00_0000 ≡ gives 32768
unfolding model_of in_unit sample_of of_bits le lt eq
half-rgb = refl

pub half-cmyk : to_sample (traits_of Cmyk).tag 0x3f00_0000 ≡ gives 32767
unfolding model_of in_unit sample_of of_bits le lt eq
half-cmyk = refl

pub half-gray : to_sample (traits_of Gray).tag 0x3f00_0000 ≡ gives 5000
unfolding model_of in_unit sample_of of_bits le lt eq
half-gray = refl

pub minus-zero : to_sample (traits_of Gray).tag 0x8000_0000 ≡ gives 0
unfolding model_of in_unit sample_of of_bits le lt eq
minus-zero = refl

-- ---- the quotient is the correctly rounded one

pub correctly-rounded : (n s : ℕ) → 0 < n → n < 2 ^ 23 → s ≤ n → channel_of n s ≡ round binary32 false s n
correctly-rounded n s N few most = channel-is n s N few most

-- ---- all samples come back, for every scale that is shorter than a float's digits

-- a channel that a sample became is from 0 to 1, and the same by its bits
same_bits : (n s : ℕ) → of_bits binary32 (to_bits binary32 (channel_of n s)) ≡ channel_of n s
same_bits n s = of_bits-to_bits binary32 (channel_of n s) (div-fits binary32 (of_int binary32 (pos s)) (of_int binary32 (pos n)))

in-unit : (n s : ℕ) → 0 < n → n < 2 ^ 23 → s ≤ n → in_unit (channel_of n s) ≡ true
in-unit n s N few most = is_true (in_unit (channel_of n s)) (channel-in n s N few most)

allowed-back : (m : Model) (n s : ℕ) → allows m (channel_of n s) ≡ true → sample_in m (of_bits binary32 (to_bits binary32 (channel_of n s))) ≡ sample_on m (channel_of n s)
allowed-back m n s e = ap (sample_in m) (same_bits n s) ∙ ap (λ (t : Bool). sample_by t m (channel_of n s)) e

pub all-return : {x : ℕ} {m : Model} → Counterparts x m → (v : ℕ) → v ≤ full x → back (traits_of m).tag (to_channel x v) ≡ gives v
unfolding to_channel allowed ranged uses model_of full
all-return lights v h = rw (le-leb v 65535 h) (allowed-back Rgb 65535 v (in-unit 65535 v (lit< tt) (lit< tt) h) ∙ ap gives (samples-return 65535 v (lit< tt) (lit< tt) h))
all-return grays v h = rw (le-leb v 10000 h) (allowed-back Gray 10000 v (in-unit 10000 v (lit< tt) (lit< tt) h) ∙ ap gives (samples-return 10000 v (lit< tt) (lit< tt) h))
all-return inks v h =
    let less : 65535 - v ≤ 65535 = omega arith in
    rw (le-leb v 65535 h)
    (allowed-back Cmyk 65535 (65535 - v) (in-unit 65535 (65535 - v) (lit< tt) (lit< tt) less)
    ∙ ap (λ (s : ℕ). gives (65535 - s)) (samples-return 65535 (65535 - v) (lit< tt) (lit< tt) less)
    ∙ ap gives (twice v h))
  where
    twice : (y : ℕ) → y ≤ 65535 → 65535 - (65535 - y) ≡ y
    twice y k = omega arith

-- ---- no channel gives a sample past the scale: in gray none above 10,000

sample_is : Converted ℕ → ℕ
sample_is (gives s) = s
sample_is (refused n p) = 0

within : {x : ℕ} {m : Model} → Counterparts x m → (b : ℕ) → sample_is (to_sample (traits_of m).tag b) ≤ full x
unfolding model_of full sample_is
within {x} {m} c b = by c
  where
    by : {x : ℕ} {m : Model} → Counterparts x m → sample_is (to_sample (traits_of m).tag b) ≤ full x
    by lights = go (in_unit (of_bits binary32 b)) refl
      where
        go : (z : Bool) → in_unit (of_bits binary32 b) ≡ z → sample_is (sample_by z Rgb (of_bits binary32 b)) ≤ 65535
        go true e = sample-most 65535 (of_bits binary32 b) (subst T (sym e) tt)
        go false e = omega arith
    by inks = go (in_unit (of_bits binary32 b)) refl
      where
        go : (z : Bool) → in_unit (of_bits binary32 b) ≡ z → sample_is (sample_by z Cmyk (of_bits binary32 b)) ≤ 65535
        go true e = omega arith
        go false e = omega arith
    by grays = go (in_unit (of_bits binary32 b)) refl
      where
        go : (z : Bool) → in_unit (of_bits binary32 b) ≡ z → sample_is (sample_by z Gray (of_bits binary32 b)) ≤ 10000
        go true e = sample-most 10000 (of_bits binary32 b) (subst T (sym e) tt)
        go false e = omega arith

pub never-above : {x : ℕ} {m : Model} → Counterparts x m → (b : ℕ) {s : ℕ} → to_sample (traits_of m).tag b ≡ gives s → s ≤ full x
unfolding sample_is
never-above {x} c b e = subst (λ (n : ℕ). n ≤ full x) (ap sample_is e) (within c b)

-- ---- the sample is the nearest whole number: with a fraction a / c, no other k has 2a - c < 2kc ≤ 2a + c

pub nearest-within : (a c : ℕ) → 0 < c → (nearest_up a c * (2 * c) ≤ 2 * a + c) × (2 * a + c < suc (nearest_up a c) * (2 * c))
nearest-within a c C =
    let D = mul-pos (pow_pos 1) C in
    ((le-div_iff_mul-le D).0 (le_refl (nearest_up a c)), (div-lt_iff_lt-mul D).0 (lt-suc_self (nearest_up a c)))

pub nearest-only : (a c k : ℕ) → 0 < c → k * (2 * c) ≤ 2 * a + c → 2 * a + c < suc k * (2 * c) → nearest_up a c ≡ k
nearest-only a c k C low high =
    let D = mul-pos (pow_pos 1) C in
    le_antisymm (le_of_suc-le-suc ((div-lt_iff_lt-mul D).1 high)) ((le-div_iff_mul-le D).1 low)
