-- A fraction from 65,536 on, rounded to a double: the double's bits hold its whole part. Nothing here is about colours. Assumes nothing.
use mathlib.Core.Path.{◌≡◌, refl, sym, ap, ap₂, ◌∙◌, subst}
use Prim.Native.Nat.{ℕ, zero, suc, ◌+◌, ◌-◌, ◌*◌, ◌/◌, ◌%◌, ◌^◌, ◌≤◌, ◌<◌, compare}
use native.Mathlib.Nat.{le_trans, le_of_eq, lt_of_lt_of_le, lt_of_le_of_lt, lt_irrefl, lt_of_not-le, le_antisymm, add-mul, zero-add, mul_comm, mul_assoc, mul_right_comm, mul-mul-mul_comm, mul-le-mul_right, mul-lt-mul_of_pos_right, lt_of_mul-lt-mul_right, mul-pos, mul-div_cancel, div-lt_iff_lt-mul, le-div_iff_mul-le}
use native.Mathlib.Omega.{arith}
use mathlib.Core.Bool.{Bool, true, false, cond, ◌&&◌, beq, true≢false}
use lib.Dec.{ltb, lit≤}
use lib.Pow.{pow-add, pow_pos, pow_mono, shl_lt, shl-shr}
use lib.Ieee.{Float, nan, inf, fin, Format, binary64, prec, low, up, down, size, top, odd, units, round, sum, add, mul, is_nan, to_bits}
use lib.Ieee.Digits.{size-lt, size-le}
use lib.Ieee.Fits.{down_pos, round_is}
use lib.Ieee.Exact.{HasValue}
use lib.Ieee.Nearest.{closest, closest_same, nearest-ge}
use lib.Ieee.Order.{drop, kept}
use lib.Ieee.Scale.{finite, grid, overflow, round_val, round_same}
use Rattle.conversion.proofs.Rounding.{closest-within}

-- ---- sums and products of floats that are not negative, by any fractions that they equal

module _ (f : Format) (a c b d : ℕ) (C : 0 < c) (D : 0 < d) where
  product : (x y p r : ℕ) → x * c ≡ a * p → y * d ≡ b * r → x * y * (c * d) ≡ a * b * (p * r)
  product x y p r h g = mul-mul-mul_comm x y c d ∙ ap₂ (λ (u v : ℕ). u * v) h g ∙ mul-mul-mul_comm a p b r

  pub mul-values : (x y : Float) → HasValue x false a c → HasValue y false b d → mul f x y ≡ round f false (a * b) (c * d)
  unfolding mul
  mul-values nan y h g = absurd h
  mul-values (inf s) y h g = absurd h
  mul-values (fin true m e) y h g = absurd (true≢false h.0)
  mul-values (fin false m e) nan h g = absurd g
  mul-values (fin false m e) (inf t) h g = absurd g
  mul-values (fin false m e) (fin true n k) h g = absurd (true≢false g.0)
  mul-values (fin false m e) (fin false n k) h g =
      round_same f false (m * up e * (n * up k)) (down e * down k) (a * b) (c * d) (mul-pos (down_pos e) (down_pos k)) (mul-pos C D) (product (m * up e) (n * up k) (down e) (down k) h.1 g.1)

  joint : (x y p r : ℕ) → x * c ≡ a * p → y * d ≡ b * r → (x * r + y * p) * (c * d) ≡ (a * d + b * c) * (p * r)
  joint x y p r h g =
      let k : x * r * (c * d) ≡ x * c * (r * d) = mul-mul-mul_comm x r c d in
      let l : y * p * (c * d) ≡ y * d * (p * c) = ap (λ (z : ℕ). y * p * z) (mul_comm c d) ∙ mul-mul-mul_comm y p d c in
      let i : a * d * (p * r) ≡ a * p * (r * d) = mul-mul-mul_comm a d p r ∙ ap (λ (z : ℕ). a * p * z) (mul_comm d r) in
      let j : b * c * (p * r) ≡ b * r * (p * c) = ap (λ (z : ℕ). b * c * z) (mul_comm p r) ∙ mul-mul-mul_comm b c r p ∙ ap (λ (z : ℕ). b * r * z) (mul_comm c p) in
      add-mul (x * r) (y * p) (c * d)
      ∙ ap₂ (λ (u v : ℕ). u + v) (k ∙ ap (λ (z : ℕ). z * (r * d)) h ∙ sym i) (l ∙ ap (λ (z : ℕ). z * (p * c)) g ∙ sym j)
      ∙ sym (add-mul (a * d) (b * c) (p * r))

  pub add-values : (x y : Float) → HasValue x false a c → HasValue y false b d → add f x y ≡ round f false (a * d + b * c) (c * d)
  unfolding add sum
  add-values nan y h g = absurd h
  add-values (inf s) y h g = absurd h
  add-values (fin true m e) y h g = absurd (true≢false h.0)
  add-values (fin false m e) nan h g = absurd g
  add-values (fin false m e) (inf t) h g = absurd g
  add-values (fin false m e) (fin true n k) h g = absurd (true≢false g.0)
  add-values (fin false m e) (fin false n k) h g =
      round_same f false (m * up e * down k + n * up k * down e) (down e * down k) (a * d + b * c) (c * d) (mul-pos (down_pos e) (down_pos k)) (mul-pos C D) (joint (m * up e) (n * up k) (down e) (down k) h.1 g.1)

-- ---- a sum of two floats that are finite is no NaN

odd_number : (d : ℕ) (s : Bool) (q k l : ℕ) → is_nan (odd d s q k l) ≡ false
unfolding is_nan odd
odd_number d s zero k l = refl
odd_number d s (suc q) k l = refl

units_number : (f : Format) (s : Bool) (q k : ℕ) → is_nan (units f s q k) ≡ false
unfolding units is_nan
units_number f s q k = go (ltb (q * 2 ^ k) (overflow f))
  where
    go : (b : Bool) → is_nan (cond b (odd (suc (prec f)) s q k (low f)) (inf s)) ≡ false
    go true = odd_number (suc (prec f)) s q k (low f)
    go false = refl

round_number : (f : Format) (s : Bool) (a c : ℕ) → is_nan (round f s a c) ≡ false
round_number f s a c = ap is_nan (round_is f s a c) ∙ units_number f s _ _

pub sum_number : (f : Format) (x y : Float) → finite x ≡ true → finite y ≡ true → is_nan (add f x y) ≡ false
unfolding add sum
sum_number f nan y h g = let z : ◌≡◌ {A = ℕ} 0 1 = cc in absurd (omega arith)
sum_number f (inf s) y h g = let z : ◌≡◌ {A = ℕ} 0 1 = cc in absurd (omega arith)
sum_number f (fin s m e) nan h g = let z : ◌≡◌ {A = ℕ} 0 1 = cc in absurd (omega arith)
sum_number f (fin s m e) (inf t) h g = let z : ◌≡◌ {A = ℕ} 0 1 = cc in absurd (omega arith)
sum_number f (fin s m e) (fin t n k) h g = go (beq s t) (ltb (m * up e * down k) (n * up k * down e))
  where
    go : (b c : Bool) → is_nan (cond b (round f s (m * up e * down k + n * up k * down e) (down e * down k)) (cond c (round f t (n * up k * down e - m * up e * down k) (down e * down k)) (round f (s && ltb (n * up k * down e) (m * up e * down k)) (m * up e * down k - n * up k * down e) (down e * down k)))) ≡ false
    go true c = round_number f s _ _
    go false true = round_number f t _ _
    go false false = round_number f _ _ _

pub value-finite : (x : Float) (s : Bool) (a c : ℕ) → HasValue x s a c → finite x ≡ true
value-finite nan s a c h = absurd h
value-finite (inf t) s a c h = absurd h
value-finite (fin t m e) s a c h = refl

-- ---- a float's bits, where it is q times 2 ^ h of the smallest doubles, and q has 53 digits

size_is : (n j : ℕ) → 2 ^ j ≤ n → n < 2 ^ suc j → size n ≡ suc j
size_is n j lo hi = le_antisymm (size-le n (suc j) hi) (lt_of_not-le (λ (g : size n ≤ j). lt_irrefl n (lt_of_lt_of_le (size-lt n) (le_trans (pow_mono g) lo))))

size-shifted : (q h : ℕ) → 2 ^ 52 ≤ q → q < 2 ^ 53 → size (q * 2 ^ h) ≡ suc (52 + h)
size-shifted q h lo hi =
    size_is (q * 2 ^ h) (52 + h) (le_trans (le_of_eq (pow-add 2 52 h)) (mul-le-mul_right (2 ^ h) lo))
    (subst (λ (k : ℕ). q * 2 ^ h < 2 ^ k) (next h) (shl_lt 53 h hi))
  where
    next : (h : ℕ) → 53 + h ≡ suc (52 + h)
    next h = omega arith

packed : (t : Bool) (n q h : ℕ) → t ≡ false → n ≡ q * 2 ^ h → 2 ^ 52 ≤ q → q < 2 ^ 53 → cond t (top binary64) 0 + (size n - 53) * 2 ^ 52 + n / 2 ^ (size n - 53) ≡ h * 2 ^ 52 + q
packed true n q h e g lo hi = absurd (true≢false e)
packed false n q h e g lo hi =
    ap (λ (k : ℕ). 0 + k * 2 ^ 52 + n / 2 ^ k) (less (size n) h (ap size g ∙ size-shifted q h lo hi))
    ∙ ap₂ (λ (x y : ℕ). x + y) (zero-add (h * 2 ^ 52)) (ap (λ (y : ℕ). y / 2 ^ h) g ∙ shl-shr q h)
  where
    less : (z h : ℕ) → z ≡ suc (52 + h) → z - 53 ≡ h
    less z h e = omega arith

pub bits_at : (z : Float) (q h : ℕ) → HasValue z false (q * 2 ^ h) (2 ^ 1074) → 2 ^ 52 ≤ q → q < 2 ^ 53 → to_bits binary64 z ≡ h * 2 ^ 52 + q
unfolding to_bits
bits_at nan q h v lo hi = absurd v
bits_at (inf s) q h v lo hi = absurd v
bits_at (fin s m e) q h v lo hi = packed s (m * up e * 2 ^ 1074 / down e) q h v.0 (ap (λ (x : ℕ). x / down e) v.1 ∙ mul-div_cancel (q * 2 ^ h) (down_pos e)) lo hi

-- ---- a fraction from 65,536 + s to less than a unit of the double below the next number

module _ (num den s : ℕ) (D : 0 < den) (lo : (65536 + s) * den ≤ num) (hi : 2 * (num * 2 ^ 36) + den < 2 * ((65537 + s) * 2 ^ 36 * den)) (S : s ≤ 65535) where
  q : ℕ
  q = closest (num * 2 ^ 36) den

  least : (65536 + s) * 2 ^ 36 ≤ q
  unfolding q
  least = le_trans ((le-div_iff_mul-le D).1 (le_trans (le_of_eq (mul_right_comm (65536 + s) (2 ^ 36) den)) (mul-le-mul_right (2 ^ 36) lo))) (nearest-ge (num * 2 ^ 36 / den) (compare (num * 2 ^ 36 % den * 2) den))

  most : q < (65537 + s) * 2 ^ 36
  unfolding q
  most = lt_of_mul-lt-mul_right den (half (closest (num * 2 ^ 36) den * den) (num * 2 ^ 36) den ((65537 + s) * 2 ^ 36 * den) (closest-within (num * 2 ^ 36) den D).0 hi)
    where
      half : (x a d y : ℕ) → 2 * x ≤ 2 * a + d → 2 * a + d < 2 * y → x < y
      half x a d y h g = omega arith

  under : num < 131072 * den
  under = lt_of_lt_of_le (lt_of_mul-lt-mul_right (2 ^ 36) (part (num * 2 ^ 36) den ((65537 + s) * den * 2 ^ 36) ((65537 + s) * 2 ^ 36 * den) (mul_right_comm (65537 + s) den (2 ^ 36)) hi)) (mul-le-mul_right den (top_of s S))
    where
      part : (x d y z : ℕ) → y ≡ z → 2 * x + d < 2 * z → x < y
      part x d y z e h = omega arith

      top_of : (s : ℕ) → s ≤ 65535 → 65537 + s ≤ 131072
      top_of s h = omega arith

  above : 65536 * den ≤ num
  above = le_trans (mul-le-mul_right den (bottom s)) lo
    where
      bottom : (s : ℕ) → 65536 ≤ 65536 + s
      bottom s = omega arith

  -- the double drops 1038 of the digits that the fraction has in its smallest units
  drops : drop 53 (num * 2 ^ 1074) den ≡ 1038
  drops = ap (λ (z : ℕ). z - 53) (size_is (num * 2 ^ 1074 / den) 1090
      ((le-div_iff_mul-le D).1 (le_trans (le_of_eq (ap (λ (z : ℕ). z * den) (pow-add 2 16 1074) ∙ mul_right_comm (2 ^ 16) (2 ^ 1074) den)) (mul-le-mul_right (2 ^ 1074) above)))
      ((div-lt_iff_lt-mul D).1 (lt_of_lt_of_le (mul-lt-mul_of_pos_right under (pow_pos 1074)) (le_of_eq (sym (ap (λ (z : ℕ). z * den) (pow-add 2 17 1074) ∙ mul_right_comm (2 ^ 17) (2 ^ 1074) den))))))

  keeps : kept 53 (num * 2 ^ 1074) den ≡ q
  unfolding q
  keeps =
      ap (λ (k : ℕ). closest (num * 2 ^ 1074) (den * 2 ^ k)) drops
      ∙ closest_same (num * 2 ^ 1074) (den * 2 ^ 1038) (num * 2 ^ 36) den (mul-pos D (pow_pos 1038)) D
      (ap (λ (z : ℕ). num * z * den) (pow-add 2 36 1038) ∙ ap (λ (z : ℕ). z * den) (sym (mul_assoc num (2 ^ 36) (2 ^ 1038))) ∙ mul_right_comm (num * 2 ^ 36) (2 ^ 1038) den ∙ mul_assoc (num * 2 ^ 36) den (2 ^ 1038))

  grid-is : grid binary64 num den ≡ q * 2 ^ 1038
  grid-is = ap₂ (λ (x k : ℕ). x * 2 ^ k) keeps drops

  q-least : 2 ^ 52 ≤ q
  q-least = omega (arith, least)

  q-most : q < 2 ^ 53
  q-most = omega (arith, most)

  rounded : HasValue (round binary64 false num den) false (q * 2 ^ 1038) (2 ^ 1074)
  rounded = subst (λ (g : ℕ). HasValue (round binary64 false num den) false g (2 ^ 1074)) grid-is
      (round_val binary64 num den (lt_of_le_of_lt (le_of_eq grid-is) (lt_of_lt_of_le (shl_lt 53 1038 q-most) (pow_mono {i = 53 + 1038} {j = 2098} (lit≤ tt)))))

  pub whole_part : to_bits binary64 (round binary64 false num den) / 2 ^ 36 % 65536 ≡ s
  whole_part = cut (to_bits binary64 (round binary64 false num den)) q s (bits_at (round binary64 false num den) q 1038 rounded q-least q-most) least most S
    where
      cut : (b q s : ℕ) → b ≡ 1038 * 2 ^ 52 + q → (65536 + s) * 2 ^ 36 ≤ q → q < (65537 + s) * 2 ^ 36 → s ≤ 65535 → b / 2 ^ 36 % 65536 ≡ s
      cut b q s e h g l = omega arith
