-- Every sample comes back from its channel. Assumes nothing.
use mathlib.Core.Path.{◌≡◌, refl, sym, ap, ◌∙◌, subst}
use Prim.Native.Nat.{ℕ, ◌+◌, ◌-◌, ◌*◌, ◌^◌, ◌≤◌, ◌<◌, zero-le}
use native.Mathlib.Nat.{mul-le-mul_left, le_trans, le_of_eq, le_of_lt, lt_of_lt_of_le, add-mul, mul_comm, mul_assoc, mul_left_comm, mul-mul-mul_comm, mul-pos, le_antisymm, le_of_suc-le-suc, div-lt_iff_lt-mul, le-div_iff_mul-le, suc-mul}
use native.Mathlib.Omega.{arith}
use mathlib.Core.Bool.{false}
use lib.IntN.{pos}
use lib.Dec.{T, lit≤}
use lib.Pow.{pow_pos}
use lib.Ieee.{Float, fin, Format, binary32, prec, low, round, of_int, le}
use lib.Ieee.Fits.{and_i}
use lib.Ieee.Back.{round_whole}
use lib.Ieee.Nearest.{div_same}
use lib.Ieee.Order.{round_mono}
use lib.Ieee.Scale.{grid}
use lib.Ieee.Positive.{num, den, den_pos, value→cross}
use Rattle.colour.specs.Channels.{in_unit}
use Rattle.conversion.specs.Scale.{channel_of, nearest_up, sample_of}
use Rattle.colour.proofs.Unit.{unit_size}
use Rattle.conversion.proofs.Rounding.{scaled_under, scaled-over, finite-value, div-whole}

-- equal fractions have the same nearest whole number
pub nearest_up-same : (a c b d : ℕ) → 0 < c → 0 < d → a * d ≡ b * c → nearest_up a c ≡ nearest_up b d
nearest_up-same a c b d C D e = div_same (2 * a + c) (2 * c) (2 * b + d) (2 * d) (mul-pos (pow_pos 1) C) (mul-pos (pow_pos 1) D)
    (side a c d ∙ ap (λ (x : ℕ). 4 * x + 2 * (c * d)) e ∙ ap (λ (x : ℕ). 4 * (b * c) + 2 * x) (mul_comm c d) ∙ sym (side b d c))
  where
    side : (x y z : ℕ) → (2 * x + y) * (2 * z) ≡ 4 * (x * z) + 2 * (y * z)
    side x y z =
        let p : 2 * x * (2 * z) ≡ 4 * (x * z) = mul-mul-mul_comm 2 x 2 z in
        let q : y * (2 * z) ≡ 2 * (y * z) = mul_left_comm y 2 z in
        add-mul (2 * x) y (2 * z) ∙ ap (λ (w : ℕ). w + y * (2 * z)) p ∙ ap (λ (w : ℕ). 4 * (x * z) + w) q

-- the sample that any fraction a / c of the channel's value gives
pub sample-of-value : (n : ℕ) (x : Float) (a c : ℕ) → 0 < c → num x * c ≡ a * den x → sample_of n x ≡ nearest_up (n * a) c
unfolding sample_of
sample-of-value n x a c C v =
    nearest_up-same (n * num x) (den x) (n * a) c (den_pos x) C (mul_assoc n (num x) c ∙ ap (λ (y : ℕ). n * y) v ∙ sym (mul_assoc n a (den x)))

between : (x l q : ℕ) → 0 < l → 2 * x < 2 * (q * l) + l → 2 * (q * l) < 2 * x + l → nearest_up x l ≡ q
between x l q P h g = le_antisymm
    (le_of_suc-le-suc ((div-lt_iff_lt-mul (mul-pos (pow_pos 1) P)).1 (subst (λ (y : ℕ). 2 * x + l < y) (sym (suc-mul q (2 * l) ∙ ap (λ (y : ℕ). y + 2 * l) (mul_left_comm q 2 l))) (hi (q * l) h))))
    ((le-div_iff_mul-le (mul-pos (pow_pos 1) P)).1 (subst (λ (y : ℕ). y ≤ 2 * x + l) (sym (mul_left_comm q 2 l)) (le_of_lt g)))
  where
    hi : (y : ℕ) → 2 * x < 2 * y + l → 2 * x + l < 2 * y + 2 * l
    hi y e = omega arith

-- the whole number nearest to a fraction of at most n is at most n
pub nearest-most : (a c n : ℕ) → 0 < c → a ≤ n * c → nearest_up a c ≤ n
nearest-most a c n C h = le_of_suc-le-suc ((div-lt_iff_lt-mul (mul-pos (pow_pos 1) C)).1
    (subst (λ (y : ℕ). 2 * a + c < y) (sym (suc-mul n (2 * c) ∙ ap (λ (y : ℕ). y + 2 * c) (mul_left_comm n 2 c))) (below (n * c) h)))
  where
    below : (y : ℕ) → a ≤ y → 2 * a + c < 2 * y + 2 * c
    below y e = omega arith

-- for either format, a scale n of fewer digits than the format keeps, and each s up to n
pub rounded-back : (f : Format) (n s : ℕ) → 0 < n → n < 2 ^ (prec f - 1) → s ≤ n → sample_of n (round f false s n) ≡ s
rounded-back f n s N few most =
    sample-of-value n (round f false s n) (grid f s n) (2 ^ low f) (pow_pos (low f)) (value→cross (round f false s n) (grid f s n) (2 ^ low f) (finite-value f n s N few most))
    ∙ between (n * grid f s n) (2 ^ low f) s (pow_pos (low f)) (scaled_under f n s N few most) (scaled-over f n s N few most)

up_to : (n : ℕ) → n < 2 ^ 23 → n ≤ 2 ^ 24
up_to n h = le_of_lt (lt_of_lt_of_le h (lit≤ tt))

pub channel-is : (n s : ℕ) → 0 < n → n < 2 ^ 23 → s ≤ n → channel_of n s ≡ round binary32 false s n
unfolding of_int
channel-is n s N few most = div-whole binary32 (round binary32 false s 1) (round binary32 false n 1) s n (round_whole binary32 false s (le_trans most (up_to n few))) (round_whole binary32 false n (up_to n few)) N

pub samples-return : (n s : ℕ) → 0 < n → n < 2 ^ 23 → s ≤ n → sample_of n (channel_of n s) ≡ s
samples-return n s N few most = ap (sample_of n) (channel-is n s N few most) ∙ rounded-back binary32 n s N few most

zero_is : round binary32 false 0 1 ≡ fin false 0 (pos 0)
unfolding round
zero_is = refl

one-is : round binary32 false 1 1 ≡ fin false 1 (pos 0)
unfolding round
one-is = refl

pub channel-in : (n s : ℕ) → 0 < n → n < 2 ^ 23 → s ≤ n → T (in_unit (channel_of n s))
unfolding in_unit
channel-in n s N few most =
    let x = round binary32 false s n in
    subst (λ (y : Float). T (in_unit y)) (sym (channel-is n s N few most))
    (and_i (le (fin false 0 (pos 0)) x) (le x (fin false 1 (pos 0)))
    (subst (λ (y : Float). T (le y x)) zero_is (round_mono binary32 0 1 s n (pow_pos 0) N (le_trans (le_of_eq (native.Mathlib.Nat.zero-mul n)) zero-le)))
    (subst (λ (y : Float). T (le x y)) one-is (round_mono binary32 s n 1 1 N (pow_pos 0) (le_trans (le_of_eq (native.Mathlib.Nat.mul-one s)) (le_trans most (le_of_eq (sym (native.Mathlib.Nat.one-mul n))))))))

-- no channel from 0 to 1 gives a sample past the scale
pub sample-most : (n : ℕ) (x : Float) → T (in_unit x) → sample_of n x ≤ n
unfolding sample_of
sample-most n x h = nearest-most (n * num x) (den x) n (den_pos x) (mul-le-mul_left n (unit_size x h).1)
