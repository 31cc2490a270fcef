-- What `nearest` works out, in whole numbers and in doubles. Assumes nothing.
use mathlib.Core.Path.{◌≡◌, refl, sym, ap, ◌∙◌, subst}
use Prim.Native.Nat.{ℕ, zero, suc, ◌+◌, ◌-◌, ◌*◌, ◌/◌, ◌%◌, ◌^◌, ◌≤◌, ◌<◌}
use native.Mathlib.Nat.{le_trans, le_of_eq, le_of_lt, lt_of_lt_of_le, lt_of_le_of_lt, add-mul, mul-one, mul_comm, mul_assoc, mul_left_comm, mul_right_comm, mul-le-mul_left, mul-le-mul_right, mul-lt-mul_of_pos_right, mul-pos, lt_of_not-le, div-eq_of_lt}
use native.Mathlib.Omega.{arith}
use native.Mathlib.Decide.{dec_le}
use mathlib.Core.Logic.{◌⊎◌, inl, inr}
use mathlib.Core.Bool.{Bool, true, false}
use borrow.Author.Tests.{lt-leb}
use lib.IntN.{pos}
use lib.Dec.{lit≤, lit<}
use lib.Pow.{pow-add, pow_pos, pow_mono, shl_lt}
use lib.Ieee.{Float, binary32, binary64, of_bits, of_int, round, mul, add, is_nan, to_bits}
use lib.Ieee.Exact.{HasValue, round_exact}
use lib.Ieee.Back.{round_whole}
use lib.Ieee.Scale.{finite, round_same}
use Rattle.conversion.specs.Scale.{nearest_up, sample_of}
use Rattle.convert.specs.scaffold.Parts.{Full, long, short}
use Rattle.conversion.proofs.Return.{nearest_up-same, sample-of-value}
use Rattle.convert.proofs.Doubles.{mul-values, add-values, sum_number, value-finite, whole_part}
use Rattle.colour.proofs.Unit.{U, E, below-ones, cross, lead-lt, digit_lt}
use Rattle.algebra.proofs.Floats.{lead, value, bits-value}

-- the digits of the bits b with the leading one
abbrev M : ℕ → ℕ
M b = 0x80_0000 + U b % 0x80_0000

-- n times the float in units of 2 ^ -40, where it is 2 ^ -17 or more
abbrev P : ℕ → ℕ → ℕ
P n b = n * M b * 2 ^ (E b - 110)

-- the sum whose bits hold the sample: n times the float, and 65,536.5
abbrev pub raised : ℕ → ℕ → Float
raised n b = add binary64 (mul binary64 (of_bits binary32 b) (of_int binary64 (pos n))) (of_bits binary64 0x40f0_0008_0000_0000)

scale-lt : {n : ℕ} → Full n → n ≤ 65535
scale-lt long = lit≤ tt
scale-lt short = lit≤ tt

product_lt : (j k : ℕ) {a b : ℕ} → a < 2 ^ j → b < 2 ^ k → a * b < 2 ^ (j + k)
product_lt j k {a} {b} h g = lt_of_le_of_lt (mul-le-mul_left a (le_of_lt g)) (subst (λ (x : ℕ). a * 2 ^ k < x) (sym (pow-add 2 j k)) (mul-lt-mul_of_pos_right h (pow_pos k)))

-- ---- between n * M below a half and the half there are more than 8 units
apart-long : (x j d : ℕ) → x < 2 ^ 27 → 0 < d → d ≤ 8 → 65535 * x + d ≡ j * 2 ^ 40 + 2 ^ 39 → ⊥
apart-long x j d X D h e =
    let few : j ≤ 7 = omega arith in
    elim (dec_le x (16777472 * j + 8388736)) [ yes l ↦ omega arith | no g ↦ omega (arith, lt_of_not-le g) ]

apart-short : (x j d : ℕ) → 0 < d → d ≤ 8 → 10000 * x + d ≡ j * 2 ^ 40 + 2 ^ 39 → ⊥
apart-short x j d D h e = omega arith

apart-even : (x j d : ℕ) → 0 < d → d ≤ 8 → 16 * x + d ≡ j * 2 ^ 40 + 2 ^ 39 → ⊥
apart-even x j d D h e = omega arith

-- 2 ^ (E - 110) is 1, 2, 4, 8, or 16 times a number
split : (e : ℕ) → ((e < 4) × (2 ^ e ≤ 8)) ⊎ ((w : ℕ) × (2 ^ e ≡ 16 * w))
split e = elim (dec_le 4 e) [
  | yes h ↦ inr (2 ^ (e - 4), ap (λ (x : ℕ). 2 ^ x) (sym (whole e h)) ∙ pow-add 2 4 (e - 4))
  | no h ↦ inl (lt_of_not-le h, pow_mono (three e (lt_of_not-le h)))
]
  where
    whole : (e : ℕ) → 4 ≤ e → 4 + (e - 4) ≡ e
    whole e h = omega arith

    three : (e : ℕ) → e < 4 → e ≤ 3
    three e h = omega arith

-- so the product in units of 2 ^ -40 is nowhere 1 to 8 units below a half
apart : {n : ℕ} → Full n → (m e j d : ℕ) → m < 2 ^ 24 → 0 < d → d ≤ 8 → n * m * 2 ^ e + d ≡ j * 2 ^ 40 + 2 ^ 39 → ⊥
apart short m e j d h D l g = apart-short (m * 2 ^ e) j d D l (ap (λ (x : ℕ). x + d) (sym (mul_assoc 10000 m (2 ^ e))) ∙ g)
apart long m e j d h D l g = elim (split e) [
  | inl z ↦ apart-long (m * 2 ^ e) j d (small (m * 2 ^ e) (shl_lt 24 e h) z.0) D l (ap (λ (x : ℕ). x + d) (sym (mul_assoc 65535 m (2 ^ e))) ∙ g)
  | inr z ↦ apart-even (65535 * m * z.0) j d D l (ap (λ (x : ℕ). x + d) (mul_left_comm 16 (65535 * m) z.0 ∙ ap (λ (x : ℕ). 65535 * m * x) (sym z.1)) ∙ g)
]
  where
    small : (x : ℕ) → x < 2 ^ (24 + e) → e < 4 → x < 2 ^ 27
    small x k z = lt_of_lt_of_le k (pow_mono (more e z))
      where
        more : (e : ℕ) → e < 4 → 24 + e ≤ 27
        more e z = omega arith

-- ---- a sample as the nearest to a fraction

sample-of-bits : (n b : ℕ) → U b ≤ 0x3f80_0000 → sample_of n (of_bits binary32 b) ≡ nearest_up (n * value binary32 b) (2 ^ 149)
sample-of-bits n b h = sample-of-value n (of_bits binary32 b) (value binary32 b) (2 ^ 149) (pow_pos 149) (cross (of_bits binary32 b) _ (value binary32 b) (2 ^ 149) (bits-value binary32 b (below-ones (U b) h)))

-- ---- the values

one-pos : 0 < 1
one-pos = lit< tt

two_pos : 0 < 2
two_pos = lit< tt

unit-pos : 0 < 2 ^ 149 * 1
unit-pos = mul-pos (pow_pos 149) one-pos

half-value : HasValue (of_bits binary64 0x40f0_0008_0000_0000) false 131073 2
unfolding of_bits
half-value = (refl, refl)

module _ (n b : ℕ) (N : n ≤ 65535) (h : b ≤ 0x3f80_0000) where
  room : U b ≤ 0x3f80_0000
  room = go b h
    where
      go : (b : ℕ) → b ≤ 0x3f80_0000 → b % 0x8000_0000 ≤ 0x3f80_0000
      go b h = omega arith

  pub float_value : HasValue (of_bits binary32 b) false (value binary32 b) (2 ^ 149)
  float_value = subst (λ (s : Bool). HasValue (of_bits binary32 b) s (value binary32 b) (2 ^ 149)) (lt-leb 0x8000_0000 b (small b h)) (bits-value binary32 b (below-ones (U b) room))
    where
      small : (b : ℕ) → b ≤ 0x3f80_0000 → b < 0x8000_0000
      small b h = omega arith

  full-value : HasValue (of_int binary64 (pos n)) false n 1
  unfolding of_int
  full-value = round_whole binary64 false n (le_trans N (lit≤ tt))

  digits_lt : lead binary32 (E b) (b % 8388608) * n < 2 ^ 53
  digits_lt = lt_of_lt_of_le (product_lt 24 16 (lead-lt (E b) (b % 8388608) (digit_lt b)) (short-lt n N)) (pow_mono {i = 24 + 16} {j = 53} (lit≤ tt))
    where
      short-lt : (n : ℕ) → n ≤ 65535 → n < 2 ^ 16
      short-lt n h = omega arith

  -- the product is a double as it stands
  exact : HasValue (mul binary64 (of_bits binary32 b) (of_int binary64 (pos n))) false (value binary32 b * n) (2 ^ 149 * 1)
  exact = subst (λ (x : Float). HasValue x false (value binary32 b * n) (2 ^ 149 * 1)) (sym (mul-values binary64 (value binary32 b) (2 ^ 149) n 1 (pow_pos 149) one-pos (of_bits binary32 b) (of_int binary64 (pos n)) float_value full-value))
      (round_exact binary64 false (value binary32 b * n) (2 ^ 149 * 1) (lead binary32 (E b) (b % 8388608) * n) (E b - 1 + 925) unit-pos digits_lt fine same)
    where
      exp-le : (u : ℕ) → u ≤ 0x3f80_0000 → 53 + (u / 0x80_0000 - 1 + 925) ≤ 2098
      exp-le u h = omega arith

      fine : lead binary32 (E b) (b % 8388608) * n * 2 ^ (E b - 1 + 925) < 2 ^ 2098
      fine = lt_of_lt_of_le (shl_lt 53 (E b - 1 + 925) digits_lt) (pow_mono (exp-le (U b) room))

      same : value binary32 b * n * 2 ^ 1074 ≡ lead binary32 (E b) (b % 8388608) * n * 2 ^ (E b - 1 + 925) * (2 ^ 149 * 1)
      same = go (lead binary32 (E b) (b % 8388608)) (2 ^ (E b - 1)) n (2 ^ 1074) (2 ^ (E b - 1 + 925)) (2 ^ 925) (2 ^ 149) (pow-add 2 925 149) (pow-add 2 (E b - 1) 925)
        where
          go : (l e n a f g w : ℕ) → a ≡ g * w → f ≡ e * g → l * e * n * a ≡ l * n * f * (w * 1)
          go l e n a f g w p r =
              ap (λ (x : ℕ). l * e * n * x) p ∙ ap (λ (x : ℕ). x * (g * w)) (mul_right_comm l e n) ∙ sym (mul_assoc (l * n * e) g w)
              ∙ ap (λ (x : ℕ). x * w) (mul_assoc (l * n) e g ∙ ap (λ (x : ℕ). l * n * x) (sym r)) ∙ ap (λ (x : ℕ). l * n * f * x) (sym (mul-one w))

  -- the sum is one rounding of the fraction
  pub raised_is : raised n b ≡ round binary64 false (value binary32 b * n * 2 + 131073 * (2 ^ 149 * 1)) (2 ^ 149 * 1 * 2)
  raised_is = add-values binary64 (value binary32 b * n) (2 ^ 149 * 1) 131073 2 unit-pos two_pos (mul binary64 (of_bits binary32 b) (of_int binary64 (pos n))) (of_bits binary64 0x40f0_0008_0000_0000) exact half-value

  -- ---- below 2 ^ -17 the sample is 0

  module _ (g : E b < 110) where
    tiny : value binary32 b * n ≤ 65535 * 2 ^ 132
    tiny = le_trans (mul-le-mul_left (value binary32 b) N) (le_trans (le_of_eq (mul_comm (value binary32 b) 65535)) (mul-le-mul_left 65535 (le_of_lt (lt_of_lt_of_le (shl_lt 24 (E b - 1) (lead-lt (E b) (b % 8388608) (digit_lt b))) (pow_mono {i = 24 + (E b - 1)} {j = 132} (few (E b) g))))))
      where
        few : (e : ℕ) → e < 110 → 24 + (e - 1) ≤ 132
        few e h = omega arith

    wide : 2 ^ 149 ≡ 131072 * 2 ^ 132
    wide = pow-add 2 17 132

    least-small : (x w z : ℕ) → (65536 + 0) * (w * 1 * 2) ≤ x * 2 + 131073 * (w * 1)
    least-small x w z = omega arith

    most-small : (x w z : ℕ) → w ≡ 131072 * z → 0 < z → x ≤ 65535 * z → 2 * ((x * 2 + 131073 * (w * 1)) * 2 ^ 36) + w * 1 * 2 < 2 * ((65537 + 0) * 2 ^ 36 * (w * 1 * 2))
    most-small x w z e Z h = omega arith

    none : (x w z : ℕ) → w ≡ 131072 * z → 0 < z → x ≤ 65535 * z → 2 * x + w < 2 * w
    none x w z e Z h = omega arith

    pub small-sample : to_bits binary64 (raised n b) / 2 ^ 36 % 65536 ≡ sample_of n (of_bits binary32 b)
    small-sample =
        ap (λ (x : Float). to_bits binary64 x / 2 ^ 36 % 65536) raised_is
        ∙ whole_part (value binary32 b * n * 2 + 131073 * (2 ^ 149 * 1)) (2 ^ 149 * 1 * 2) 0 (mul-pos unit-pos two_pos) (least-small (value binary32 b * n) (2 ^ 149) (2 ^ 132)) (most-small (value binary32 b * n) (2 ^ 149) (2 ^ 132) wide (pow_pos 132) tiny) (lit≤ tt)
        ∙ sym (sample-of-bits n b room ∙ div-eq_of_lt (none (n * value binary32 b) (2 ^ 149) (2 ^ 132) wide (pow_pos 132) (le_trans (le_of_eq (mul_comm n (value binary32 b))) tiny)))

  -- ---- otherwise it is M / 2 ^ (150 - E), and the product is whole in units of 2 ^ -40

  module _ (g : 110 ≤ E b) where
    lead_is : (x t : ℕ) → 110 ≤ x → lead binary32 x t ≡ 8388608 + t
    lead_is zero t h = absurd (no h)
      where
        no : 110 ≤ 0 → ⊥
        no k = omega arith
    lead_is (suc x) t h = refl

    same_digits : (b : ℕ) → b % 2147483648 % 8388608 ≡ b % 8388608
    same_digits b = omega arith

    powers : 2 ^ (E b - 1) ≡ 2 ^ (E b - 110) * 2 ^ 109
    powers = ap (λ (x : ℕ). 2 ^ x) (shift (E b) g) ∙ pow-add 2 (E b - 110) 109
      where
        shift : (e : ℕ) → 110 ≤ e → e - 1 ≡ e - 110 + 109
        shift e h = omega arith

    value-is : value binary32 b * n ≡ P n b * 2 ^ 109
    value-is =
        ap (λ (x : ℕ). x * 2 ^ (E b - 1) * n) (lead_is (E b) (b % 8388608) g ∙ ap (λ (x : ℕ). 8388608 + x) (sym (same_digits b)))
        ∙ ap (λ (x : ℕ). M b * x * n) powers ∙ mul_comm (M b * (2 ^ (E b - 110) * 2 ^ 109)) n ∙ sym (mul_assoc n (M b) (2 ^ (E b - 110) * 2 ^ 109)) ∙ sym (mul_assoc (n * M b) (2 ^ (E b - 110)) (2 ^ 109))

    digits-most : (u : ℕ) → 0x80_0000 + u % 0x80_0000 < 2 ^ 24
    digits-most u = omega arith

    exp-le : (u : ℕ) → u ≤ 0x3f80_0000 → u / 0x80_0000 ≤ 127
    exp-le u h = omega arith

    at_one : (u : ℕ) → u ≤ 0x3f80_0000 → u / 0x80_0000 ≡ 127 → 0x80_0000 + u % 0x80_0000 ≡ 2 ^ 23
    at_one u h g = omega arith

    -- the float is at most 1
    m-le : M b * 2 ^ (E b - 110) ≤ 2 ^ 40
    m-le = go (native.Mathlib.Nat.eq-or-lt_of_le (exp-le (U b) room))
      where
        go : (E b ≡ 127) ⊎ (E b < 127) → M b * 2 ^ (E b - 110) ≤ 2 ^ 40
        go (inl e) = le_of_eq (ap (λ (x : ℕ). x * 2 ^ (E b - 110)) (at_one (U b) room e) ∙ ap (λ (x : ℕ). 2 ^ 23 * 2 ^ (x - 110)) e)
        go (inr l) = le_of_lt (lt_of_lt_of_le (shl_lt 24 (E b - 110) (digits-most (U b))) (pow_mono (less (E b) l)))
          where
            less : (e : ℕ) → e < 127 → 24 + (e - 110) ≤ 40
            less e k = omega arith

    p-most : P n b ≤ 65535 * 2 ^ 40
    p-most = le_trans (le_of_eq (mul_assoc n (M b) (2 ^ (E b - 110)))) (le_trans (mul-le-mul_left n m-le) (mul-le-mul_right (2 ^ 40) N))

    fraction : (x p t w : ℕ) → x ≡ p * t → w ≡ t * 2 ^ 40 → (x * 2 + 131073 * (w * 1)) * 2 ^ 40 ≡ (p + 131073 * 2 ^ 39) * (w * 1 * 2)
    fraction x p t w e f =
        let k : p * (w * 1 * 2) ≡ x * 2 ^ 41 = ap (λ (z : ℕ). p * z) (twice w t f) ∙ sym (mul_assoc p t (2 ^ 41)) ∙ ap (λ (z : ℕ). z * 2 ^ 41) (sym e) in
        sym (add-mul p (131073 * 2 ^ 39) (w * 1 * 2) ∙ join x w (p * (w * 1 * 2)) k)
      where
        twice : (w t : ℕ) → w ≡ t * 2 ^ 40 → w * 1 * 2 ≡ t * 2 ^ 41
        twice w t f = omega arith

        join : (x w y : ℕ) → y ≡ x * 2 ^ 41 → y + 131073 * 2 ^ 39 * (w * 1 * 2) ≡ (x * 2 + 131073 * (w * 1)) * 2 ^ 40
        join x w y k = omega arith

    raised-same : raised n b ≡ round binary64 false (P n b + 131073 * 2 ^ 39) (2 ^ 40)
    raised-same = raised_is ∙ round_same binary64 false (value binary32 b * n * 2 + 131073 * (2 ^ 149 * 1)) (2 ^ 149 * 1 * 2) (P n b + 131073 * 2 ^ 39) (2 ^ 40) (mul-pos unit-pos two_pos) (pow_pos 40)
        (fraction (value binary32 b * n) (P n b) (2 ^ 109) (2 ^ 149) value-is (pow-add 2 109 40))

    module _ (k : Full n) where
      far : (P n b + 2 ^ 39) % 2 ^ 40 + 8 < 2 ^ 40
      far = elim (dec_le (2 ^ 40) ((P n b + 2 ^ 39) % 2 ^ 40 + 8)) [
        | yes h ↦ absurd (apart k (M b) (E b - 110) ((P n b + 2 ^ 39) / 2 ^ 40) (2 ^ 40 - (P n b + 2 ^ 39) % 2 ^ 40) (digits-most (U b)) (gap (P n b) h) (near (P n b) h) (meets (P n b)))
        | no h ↦ lt_of_not-le h
      ]
        where
          gap : (p : ℕ) → 2 ^ 40 ≤ (p + 2 ^ 39) % 2 ^ 40 + 8 → 0 < 2 ^ 40 - (p + 2 ^ 39) % 2 ^ 40
          gap p h = omega arith

          near : (p : ℕ) → 2 ^ 40 ≤ (p + 2 ^ 39) % 2 ^ 40 + 8 → 2 ^ 40 - (p + 2 ^ 39) % 2 ^ 40 ≤ 8
          near p h = omega arith

          meets : (p : ℕ) → p + (2 ^ 40 - (p + 2 ^ 39) % 2 ^ 40) ≡ (p + 2 ^ 39) / 2 ^ 40 * 2 ^ 40 + 2 ^ 39
          meets p = omega arith

      low-side : (p : ℕ) → (65536 + (p + 2 ^ 39) / 2 ^ 40) * 2 ^ 40 ≤ p + 131073 * 2 ^ 39
      low-side p = omega arith

      high-side : (p : ℕ) → (p + 2 ^ 39) % 2 ^ 40 + 8 < 2 ^ 40 → 2 * ((p + 131073 * 2 ^ 39) * 2 ^ 36) + 2 ^ 40 < 2 * ((65537 + (p + 2 ^ 39) / 2 ^ 40) * 2 ^ 36 * 2 ^ 40)
      high-side p h = omega arith

      small-side : (p : ℕ) → p ≤ 65535 * 2 ^ 40 → (p + 2 ^ 39) / 2 ^ 40 ≤ 65535
      small-side p h = omega arith

      pub large-sample : to_bits binary64 (raised n b) / 2 ^ 36 % 65536 ≡ sample_of n (of_bits binary32 b)
      large-sample =
          ap (λ (x : Float). to_bits binary64 x / 2 ^ 36 % 65536) raised-same
          ∙ whole_part (P n b + 131073 * 2 ^ 39) (2 ^ 40) ((P n b + 2 ^ 39) / 2 ^ 40) (pow_pos 40) (low-side (P n b)) (high-side (P n b) far) (small-side (P n b) p-most)
          ∙ halves (P n b)
          ∙ nearest_up-same (P n b) (2 ^ 40) (n * value binary32 b) (2 ^ 149) (pow_pos 40) (pow_pos 149) (same (P n b) (n * value binary32 b) (2 ^ 109) (2 ^ 149) (mul_comm n (value binary32 b) ∙ value-is) (pow-add 2 109 40))
          ∙ sym (sample-of-bits n b room)
        where
          halves : (p : ℕ) → (p + 2 ^ 39) / 2 ^ 40 ≡ (2 * p + 2 ^ 40) / (2 * 2 ^ 40)
          halves p = omega arith

          same : (p x t w : ℕ) → x ≡ p * t → w ≡ t * 2 ^ 40 → p * w ≡ x * 2 ^ 40
          same p x t w e f = ap (λ (z : ℕ). p * z) f ∙ sym (mul_assoc p t (2 ^ 40)) ∙ ap (λ (z : ℕ). z * 2 ^ 40) (sym e)

-- ---- of both

-- the product and anything finite have a sum
pub product-number : (n b : ℕ) (y : Float) → Full n → b ≤ 0x3f80_0000 → finite y ≡ true → is_nan (add binary64 (mul binary64 (of_bits binary32 b) (of_int binary64 (pos n))) y) ≡ false
product-number n b y k h g = sum_number binary64 (mul binary64 (of_bits binary32 b) (of_int binary64 (pos n))) y (value-finite (mul binary64 (of_bits binary32 b) (of_int binary64 (pos n))) false _ _ (exact n b (scale-lt k) h)) g

pub raised-sample : (n b : ℕ) → Full n → b ≤ 0x3f80_0000 → to_bits binary64 (raised n b) / 2 ^ 36 % 65536 ≡ sample_of n (of_bits binary32 b)
raised-sample n b k h = elim (dec_le 110 (E b)) [ yes g ↦ large-sample n b (scale-lt k) h g k | no g ↦ small-sample n b (scale-lt k) h (lt_of_not-le g) ]
