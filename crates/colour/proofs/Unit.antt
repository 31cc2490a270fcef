-- The floats from 0 to 1 by their bits: those up to 1's, and minus zero's. Assumes nothing.
use mathlib.Core.Path.{◌≡◌, refl, sym, ap, ◌∙◌, subst}
use mathlib.Core.Logic.{◌⊎◌, inl, inr}
use Prim.Native.Nat.{ℕ, zero, suc, ◌+◌, ◌-◌, ◌*◌, ◌/◌, ◌%◌, ◌^◌, ◌≤◌, ◌<◌, zero-le}
use native.Mathlib.Nat.{lt_irrefl, zero-lt-suc, mul-pos, mul-one, one-mul, zero-mul, le_trans, le_of_eq, le_of_lt, lt_of_lt_of_le, lt_of_not-le, not-le_of_lt, eq-or-lt_of_le, mul_comm, mul-le-mul_left, mul-le-mul_right, le_of_mul-le-mul_right}
use native.Mathlib.Omega.{arith}
use mathlib.Core.Bool.{Bool, true, false, not, true≢false, ◌&&◌, ◌||◌}
use lib.IntN.{pos}
use lib.Dec.{T, leb, ltb, eqb, ltb→lt, eqb→eq, lit<}
use lib.Pow.{pow_pos, pow_mono, shl_lt}
use borrow.Author.Tests.{lt-leb, le-leb, leb-true, leb-false}
use lib.Ieee.{Float, nan, inf, fin, binary32, up, down, le, lt, eq, is_nan, of_bits}
use lib.Ieee.Fits.{and_i, and_l, and_r, down_pos}
use lib.Ieee.Order.{le_of_values}
use lib.Ieee.Bits.{is_true}
use lib.Ieee.Exact.{HasValue}
use lib.Ieee.Positive.{num, den, den_pos}
use lib.Ieee.Scale.{finite}
use Rattle.colour.specs.Channels.{in_unit}
use Rattle.algebra.proofs.Floats.{lead, value, bits-value, finite-bits}

-- size and exponent of the bits b
abbrev pub U : ℕ → ℕ
U b = b % 0x8000_0000

abbrev pub E : ℕ → ℕ
E b = U b / 0x80_0000

pub below-ones : (u : ℕ) → u ≤ 0x3f80_0000 → u < 255 * 0x80_0000
below-ones u h = omega arith

-- a value's fraction, whatever its sign
pub cross : (x : Float) (s : Bool) (a c : ℕ) → HasValue x s a c → num x * c ≡ a * den x
cross lib.Ieee.nan s a c h = absurd h
cross (lib.Ieee.inf t) s a c h = absurd h
cross (lib.Ieee.fin t m e) s a c h = h.1

pub lead-lt : (x t : ℕ) → t < 2 ^ 23 → lead binary32 x t < 2 ^ 24
lead-lt zero t h = omega arith
lead-lt (suc x) t h = omega arith

pub digit_lt : (b : ℕ) → b % 8388608 < 2 ^ 23
digit_lt b = omega arith

or_split : (a b : Bool) → T (a || b) → T a ⊎ T b
or_split true b t = inl tt
or_split false b t = inr t

lt-or-eq : (a b : ℕ) (c : Bool) → T (ltb a b || (eqb a b && c)) → a ≤ b
lt-or-eq a b c t = elim (or_split (ltb a b) (eqb a b && c) t) [ inl u ↦ le_of_lt (ltb→lt a b u) | inr u ↦ le_of_eq (eqb→eq a b (and_l (eqb a b) c u)) ]

pub unit_size : (x : Float) → T (in_unit x) → T (finite x) × (num x ≤ den x)
unfolding in_unit le lt eq
unit_size nan h = absurd h
unit_size (inf true) h = absurd h
unit_size (inf false) h = absurd h
unit_size (fin true m e) h =
    let a = 0 * 1 * down e in
    let z : a ≡ m * up e * 1 = eqb→eq a (m * up e * 1) (and_l (eqb a (m * up e * 1)) (eqb a 0) (and_l (eqb a (m * up e * 1) && eqb a 0) (le (fin true m e) (fin false 1 (pos 0))) h)) in
    (tt, none (m * up e) (down e) z)
  where
    none : (x d : ℕ) → 0 * 1 * d ≡ x * 1 → x ≤ d
    none x d z = omega arith
unit_size (fin false m e) h =
    (tt, tidy (m * up e) (down e) (lt-or-eq (m * up e * 1) (1 * 1 * down e) true (and_r (le (fin false 0 (pos 0)) (fin false m e)) (le (fin false m e) (fin false 1 (pos 0))) h)))
  where
    tidy : (x d : ℕ) → x * 1 ≤ 1 * 1 * d → x ≤ d
    tidy x d k = omega arith

pub unit-no-nan : (x : Float) → T (in_unit x) → T (not (is_nan x))
unit-no-nan x h = go x (unit_size x h).0
  where
    go : (y : Float) → T (finite y) → T (not (is_nan y))
    go nan t = absurd t
    go (inf s) t = absurd t
    go (fin s m e) t = unfold is_nan in tt

-- ---- a value of at most 2 ^ 149 units has a pattern of at most 1's
T_of : {b : Bool} → b ≡ true → T b
T_of e = subst T (sym e) tt

lead-pos : (x t : ℕ) → 0 < x → lead binary32 x t ≡ 8388608 + t
lead-pos zero t h = absurd (no h)
  where
    no : 0 < 0 → ⊥
    no k = omega arith
lead-pos (suc x) t h = refl

too_large : (u t : ℕ) → 0x3f80_0000 < u → t ≡ u % 0x80_0000 → lead binary32 (u / 0x80_0000) t * 2 ^ (u / 0x80_0000 - 1) ≤ 2 ^ 149 → ⊥
too_large u t h s k =
    let e = u / 0x80_0000 in
    let l : (8388608 + t) * 2 ^ (e - 1) ≤ 2 ^ 149 = subst (λ (x : ℕ). x * 2 ^ (e - 1) ≤ 2 ^ 149) (lead-pos e t (some u h)) k in
    go e t refl s l (eq-or-lt_of_le (least u h))
  where
    some : (v : ℕ) → 0x3f80_0000 < v → 0 < v / 0x80_0000
    some v p = omega arith

    least : (v : ℕ) → 0x3f80_0000 < v → 127 ≤ v / 0x80_0000
    least v p = omega arith

    digit : (v r : ℕ) → 0x3f80_0000 < v → 127 ≡ v / 0x80_0000 → r ≡ v % 0x80_0000 → 8388608 < 8388608 + r
    digit v r p q d = omega arith

    go : (e r : ℕ) → e ≡ u / 0x80_0000 → r ≡ u % 0x80_0000 → (8388608 + r) * 2 ^ (e - 1) ≤ 2 ^ 149 → (127 ≡ e) ⊎ (127 < e) → ⊥
    go e r p d l (inl q) =
        let w : (8388608 + r) * 2 ^ 126 ≤ 8388608 * 2 ^ 126 = subst (λ (x : ℕ). (8388608 + r) * 2 ^ (x - 1) ≤ 2 ^ 149) (sym q) l in
        not-le_of_lt (digit u r h (q ∙ p) d) (le_of_mul-le-mul_right w (pow_pos 126))
    go e r p d l (inr q) =
        let w : 2 ^ 149 < 8388608 * 2 ^ 127 = lit< tt in
        not-le_of_lt w
        (le_trans (mul-le-mul_left 8388608 (pow_mono (lower e q))) (le_trans (mul-le-mul_right (2 ^ (e - 1)) (more r)) l))
      where
        lower : (y : ℕ) → 127 < y → 127 ≤ y - 1
        lower y o = omega arith

        more : (y : ℕ) → 8388608 ≤ 8388608 + y
        more y = omega arith

digits_of : (b : ℕ) → b % 8388608 ≡ b % 2147483648 % 8388608
digits_of b = omega arith

pub unit-bits : (b : ℕ) → T (in_unit (of_bits binary32 b)) → U b ≤ 0x3f80_0000
unit-bits b h =
    let x = of_bits binary32 b in
    let s = unit_size x h in
    let f : b % 2147483648 < 255 * 8388608 = ltb→lt (b % 2147483648) (255 * 8388608) (T_of (sym (finite-bits binary32 b) ∙ is_true (finite x) s.0)) in
    let v : num x * 2 ^ 149 ≡ value binary32 b * den x = cross x (leb 2147483648 b) (value binary32 b) (2 ^ 149) (bits-value binary32 b f) in
    let w : value binary32 b ≤ 2 ^ 149 = le_of_mul-le-mul_right (le_trans (le_of_eq (sym v)) (le_trans (mul-le-mul_right (2 ^ 149) s.1) (le_of_eq (mul_comm (den x) (2 ^ 149))))) (den_pos x) in
    lt-or (U b) (λ k. too_large (U b) (b % 8388608) k (digits_of b) w)
  where
    lt-or : (u : ℕ) → (0x3f80_0000 < u → ⊥) → u ≤ 0x3f80_0000
    lt-or u n = native.Mathlib.Nat.le_of_suc-le-suc (lt_of_not-le (λ k. n k))

-- ---- and the other way: bits up to those of 1 are from 0 to 1
pub value-le : (b : ℕ) → U b ≤ 0x3f80_0000 → value binary32 b ≤ 2 ^ 149
value-le b h = go (E b) (b % 8388608) refl (eq-or-lt_of_le (most (U b) h))
  where
    most : (u : ℕ) → u ≤ 0x3f80_0000 → u / 0x80_0000 ≤ 127
    most u k = omega arith

    none : (c : ℕ) → c % 2147483648 ≤ 0x3f80_0000 → c % 2147483648 / 0x80_0000 ≡ 127 → c % 8388608 ≡ 0
    none c k e = omega arith

    lower : (e : ℕ) → e < 127 → 24 + (e - 1) ≤ 149
    lower e k = omega arith

    go : (e t : ℕ) → b % 8388608 ≡ t → (E b ≡ 127) ⊎ (E b < 127) → lead binary32 (E b) t * 2 ^ (E b - 1) ≤ 2 ^ 149
    go e t p (inl q) =
        le_of_eq (ap (λ (x : ℕ). lead binary32 x t * 2 ^ (x - 1)) q ∙ ap (λ (x : ℕ). (8388608 + x) * 2 ^ 126) (sym p ∙ none b h q))
    go e t p (inr q) = le_of_lt (lt_of_lt_of_le (shl_lt 24 (E b - 1) (lead-lt (E b) t (subst (λ (x : ℕ). x < 2 ^ 23) p (digit_lt b)))) (pow_mono (lower (E b) q)))

plus : (b : ℕ) → b ≤ 0x3f80_0000 → leb 2147483648 b ≡ false
plus b h = lt-leb 2147483648 b (omega arith)

small-u : (b : ℕ) → b ≤ 0x3f80_0000 → U b ≤ 0x3f80_0000
small-u b h = omega arith

unit-below : (b : ℕ) → b ≤ 0x3f80_0000 → in_unit (of_bits binary32 b) ≡ true
unfolding in_unit
unit-below b h = is_true _ (and_i (le (fin false 0 (pos 0)) x) (le x (fin false 1 (pos 0)))
    (le_of_values (fin false 0 (pos 0)) x 0 1 (value binary32 b) (2 ^ 149) (pow_pos 0) (pow_pos 149) (refl, refl) v (le_trans (le_of_eq (zero-mul (2 ^ 149))) zero-le))
    (le_of_values x (fin false 1 (pos 0)) (value binary32 b) (2 ^ 149) 1 1 (pow_pos 149) (pow_pos 0) v (refl, refl) (le_trans (le_of_eq (mul-one (value binary32 b))) (le_trans (value-le b (small-u b h)) (le_of_eq (sym (one-mul (2 ^ 149))))))))
  where
    x : Float
    x = of_bits binary32 b

    v : HasValue x false (value binary32 b) (2 ^ 149)
    v = subst (λ (s : Bool). HasValue x s (value binary32 b) (2 ^ 149)) (plus b h) (bits-value binary32 b (below-ones (U b) (small-u b h)))

-- ---- below zero there is minus zero alone
minus-none : (x : Float) (a c : ℕ) → T (in_unit x) → HasValue x true a c → a ≡ 0
unfolding in_unit le lt eq
minus-none nan a c h v = absurd v
minus-none (inf s) a c h v = absurd v
minus-none (fin false m e) a c h v = absurd (true≢false (sym v.0))
minus-none (fin true m e) a c h v =
    let z : 0 * 1 * down e ≡ m * up e * 1 = eqb→eq (0 * 1 * down e) (m * up e * 1) (and_l (eqb (0 * 1 * down e) (m * up e * 1)) (eqb (0 * 1 * down e) 0) (and_l (eqb (0 * 1 * down e) (m * up e * 1) && eqb (0 * 1 * down e) 0) (le (fin true m e) (fin false 1 (pos 0))) h)) in
    let w : a * down e ≡ 0 = sym v.1 ∙ ap (λ (y : ℕ). y * c) (none (m * up e) (down e) z) ∙ zero-mul c in
    left-zero a (down e) (down_pos e) w
  where
    none : (y d : ℕ) → 0 * 1 * d ≡ y * 1 → y ≡ 0
    none y d z = omega arith

    left-zero : (p q : ℕ) → 0 < q → p * q ≡ 0 → p ≡ 0
    left-zero zero q h w = refl
    left-zero (suc p) q h w = absurd (lt_irrefl 0 (subst (λ (y : ℕ). 0 < y) w (mul-pos (zero-lt-suc p) h)))

value_none : (b : ℕ) → value binary32 b ≡ 0 → U b ≡ 0
value_none b h = go (E b) refl
  where
    none : (c : ℕ) → c % 2147483648 / 0x80_0000 ≡ 0 → c % 8388608 ≡ 0 → c % 2147483648 ≡ 0
    none c e t = omega arith

    some : (t : ℕ) → 0 < 8388608 + t
    some t = omega arith

    go : (e : ℕ) → E b ≡ e → U b ≡ 0
    go zero q = none b q (sym (mul-one (b % 8388608)) ∙ subst (λ (x : ℕ). lead binary32 x (b % 8388608) * 2 ^ (x - 1) ≡ 0) q h)
    go (suc e) q =
        let w : (8388608 + b % 8388608) * 2 ^ (suc e - 1) ≡ 0 = subst (λ (x : ℕ). lead binary32 x (b % 8388608) * 2 ^ (x - 1) ≡ 0) q h in
        absurd (lt_irrefl 0 (subst (λ (y : ℕ). 0 < y) w (mul-pos (some (b % 8388608)) (pow_pos (suc e - 1)))))

-- the bits of floats from 0 to 1 are those up to 1's, and minus zero's
unit-above : (b : ℕ) → b < 2 ^ 32 → 0x3f80_0000 < b → (b ≡ 0x8000_0000 → ⊥) → in_unit (of_bits binary32 b) ≡ false
unit-above b fit h other = go (in_unit x) refl
  where
    x : Float
    x = of_bits binary32 b

    high : (c : ℕ) → 0x3f80_0000 < c → c % 2147483648 ≤ 0x3f80_0000 → 2147483648 ≤ c
    high c k u = omega arith

    same : (c : ℕ) → c < 2 ^ 32 → 2147483648 ≤ c → c % 2147483648 ≡ 0 → c ≡ 0x8000_0000
    same c f k u = omega arith

    go : (t : Bool) → in_unit x ≡ t → t ≡ false
    go false e = refl
    go true e =
        let i : T (in_unit x) = T_of e in
        let u = unit-bits b i in
        let l = high b h u in
        let v : HasValue x true (value binary32 b) (2 ^ 149) = subst (λ (s : Bool). HasValue x s (value binary32 b) (2 ^ 149)) (le-leb 2147483648 b l) (bits-value binary32 b (below-ones (U b) u)) in
        absurd (other (same b fit l (value_none b (minus-none x (value binary32 b) (2 ^ 149) i v))))

pub unit-minus : in_unit (of_bits binary32 0x8000_0000) ≡ true
unfolding in_unit of_bits le lt eq
unit-minus = refl

-- from 0 to 1 is finite
pub unit-finite : (x : Float) → in_unit x ≡ true → finite x ≡ true
unit-finite x e = is_true (finite x) (unit_size x (T_of e)).0

pub unit-leb : (b : ℕ) → b < 2 ^ 32 → (b ≡ 0x8000_0000 → ⊥) → leb b 0x3f80_0000 ≡ in_unit (of_bits binary32 b)
unit-leb b fit other = go (leb b 0x3f80_0000) refl
  where
    go : (t : Bool) → leb b 0x3f80_0000 ≡ t → t ≡ in_unit (of_bits binary32 b)
    go true e = sym (unit-below b (leb-true b 0x3f80_0000 e))
    go false e = sym (unit-above b fit (leb-false b 0x3f80_0000 e) other)
