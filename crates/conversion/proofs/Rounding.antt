-- How far a rounded fraction lies from the fraction, for either format; and that a division of two whole numbers is one rounding of their fraction.
-- Nothing here is about colours. Assumes nothing.
use mathlib.Core.Path.{◌≡◌, sym, ap, ◌∙◌, subst}
use Prim.Native.Nat.{ℕ, suc, ◌+◌, ◌-◌, ◌*◌, ◌/◌, ◌%◌, ◌^◌, ◌≤◌, ◌<◌, compare, Ordering}
use native.Mathlib.Nat.{le_trans, le_of_eq, lt_of_lt_of_le, lt_of_le_of_lt, lt_irrefl, mod-lt, div-add-mod', add-mul, suc-mul, mul-one, one-mul, zero-mul, mul_comm, mul_assoc, mul_left_comm, mul-le-mul_right, mul-lt-mul_of_pos_right, mul-pos, div-lt_iff_lt-mul}
use native.Mathlib.Omega.{arith}
use mathlib.Core.Bool.{true, false, not, cond, true≢false}
use lib.IntN.{ℤ}
use lib.Dec.{T, eqb, is_le, compare_is_eq, leb→le, nleb→lt, eqb→eq, eqb_refl, not_T, lit≤}
use lib.Arith.{lt_of_le-ne}
use lib.Pow.{pow-add, pow_pos, pow_mono}
use lib.Ieee.{Float, nan, inf, fin, Format, binary32, binary64, prec, emax, low, up, down, size, nearest, round, div}
use lib.Ieee.Digits.{size-le}
use lib.Ieee.Fits.{down_pos, two, two-le_pos}
use lib.Ieee.Bits.{cond_no}
use lib.Ieee.Exact.{HasValue}
use lib.Ieee.Nearest.{closest}
use lib.Ieee.Order.{drop, kept}
use lib.Ieee.Scale.{grid, round_val, round_same}

-- ---- what `compare` says
abbrev Cmp : Ordering → ℕ → ℕ → Type 0
Cmp Ordering.lt a b = a < b
Cmp Ordering.eq a b = a ≡ b
Cmp Ordering.gt a b = b < a

cmp : (a b : ℕ) → Cmp (compare a b) a b
cmp a b = go (compare a b) (leb→le a b) (nleb→lt a b) (eqb→eq a b) (λ (e : a ≡ b). subst (λ (x : ℕ). T (eqb a x)) e (eqb_refl a))
  where
    go : (o : Ordering) → (T (is_le o) → a ≤ b) → (T (not (is_le o)) → b < a) → (T (compare_is_eq o) → a ≡ b) → (a ≡ b → T (compare_is_eq o)) → Cmp o a b
    go Ordering.lt h k e n = lt_of_le-ne (h tt) n
    go Ordering.eq h k e n = e tt
    go Ordering.gt h k e n = k tt

-- ---- the whole number closest to a / b is within a half of it

abbrev Sides : ℕ → ℕ → ℕ → Type 0
Sides a b y = (2 * y ≤ 2 * a + b) × (2 * a ≤ 2 * y + b)

abbrev Within : ℕ → ℕ → ℕ → Type 0
Within a b x = Sides a b (x * b)

zero_one : (q b : ℕ) → q % 2 * b ≤ b
zero_one q b = le_trans (mul-le-mul_right b (bit q)) (le_of_eq (one-mul b))
  where
    bit : (x : ℕ) → x % 2 ≤ 1
    bit x = omega arith

pub closest-within : (a b : ℕ) → 0 < b → Within a b (closest a b)
closest-within a b B = go (compare (a % b * 2) b) (cmp (a % b * 2) b)
  where
    plain : (w r : ℕ) → w + r ≡ a → r * 2 < b → (2 * w ≤ 2 * a + b) × (2 * a ≤ 2 * w + b)
    plain w r e h = (omega arith, omega arith)

    tie : (w r v : ℕ) → w + r ≡ a → r * 2 ≡ b → v ≤ b → (2 * (w + v) ≤ 2 * a + b) × (2 * a ≤ 2 * (w + v) + b)
    tie w r v e h l = (omega arith, omega arith)

    over : (w r : ℕ) → w + r ≡ a → r < b → b < r * 2 → (2 * (w + b) ≤ 2 * a + b) × (2 * a ≤ 2 * (w + b) + b)
    over w r e l h = (omega arith, omega arith)

    go : (o : Ordering) → Cmp o (a % b * 2) b → Within a b (nearest (a / b) o)
    go Ordering.lt h = plain (a / b * b) (a % b) (div-add-mod' a b) h
    go Ordering.eq h = subst (Sides a b) (sym (add-mul (a / b) (a / b % 2) b)) (tie (a / b * b) (a % b) (a / b % 2 * b) (div-add-mod' a b) h (zero_one (a / b) b))
    go Ordering.gt h = subst (Sides a b) (sym (suc-mul (a / b) b)) (over (a / b * b) (a % b) (div-add-mod' a b) (mod-lt a B) h)

-- ---- a fraction s / n that is at most 1, rounded: in units of the smallest value, n times the result is less than half of 2 ^ low from s * 2 ^ low, where n has fewer digits than the format keeps
half-ulp : (p z l : ℕ) → 0 < p → p ≤ suc l → z ≤ suc l → p - 1 + (z - p) ≤ l
half-ulp p z l P h k = omega arith

digits-fit : (f : Format) → prec f ≤ suc (low f)
digits-fit binary32 = lit≤ tt
digits-fit binary64 = lit≤ tt

twice-pow : (k : ℕ) → 2 ^ k < 2 ^ suc k
twice-pow k = lib.Pow.pow-lt (native.Mathlib.Nat.lt-suc_self k)

module _ (f : Format) (n s : ℕ) (N : 0 < n) (few : n < 2 ^ (prec f - 1)) (most : s ≤ n) where
  abbrev L : ℕ
  L = 2 ^ low f

  abbrev k : ℕ
  k = drop (prec f) (s * L) n

  abbrev u : ℕ
  u = n * 2 ^ k

  size_in : size (s * L / n) ≤ suc (low f)
  size_in = size-le (s * L / n) (suc (low f)) ((div-lt_iff_lt-mul N).1
      (lt_of_le_of_lt (mul-le-mul_right L most) (subst (λ (x : ℕ). x < 2 ^ suc (low f) * n) (mul_comm L n) (mul-lt-mul_of_pos_right (twice-pow (low f)) N))))

  unit-lt : u < L
  unit-lt = lt_of_lt_of_le (mul-lt-mul_of_pos_right few (pow_pos k))
      (le_trans (le_of_eq (sym (pow-add 2 (prec f - 1) k))) (pow_mono (half-ulp (prec f) (size (s * L / n)) (low f) (two-le_pos (prec f) (two f)) (digits-fit f) size_in)))

  -- n times the rounded fraction
  scaled : n * grid f s n ≡ kept (prec f) (s * L) n * u
  scaled = mul_left_comm n (kept (prec f) (s * L) n) (2 ^ k)

  unit-pos : 0 < u
  unit-pos = mul-pos N (pow_pos k)

  pub scaled_under : 2 * (n * grid f s n) < 2 * (s * L) + L
  scaled_under = close (n * grid f s n) (kept (prec f) (s * L) n * u) (s * L) u L scaled (closest-within (s * L) u unit-pos).0 unit-lt
    where
      close : (x y a v l : ℕ) → x ≡ y → 2 * y ≤ 2 * a + v → v < l → 2 * x < 2 * a + l
      close x y a v l e h g = omega arith

  pub scaled-over : 2 * (s * L) < 2 * (n * grid f s n) + L
  scaled-over = close (n * grid f s n) (kept (prec f) (s * L) n * u) (s * L) u L scaled (closest-within (s * L) u unit-pos).1 unit-lt
    where
      close : (x y a v l : ℕ) → x ≡ y → 2 * a ≤ 2 * y + v → v < l → 2 * a < 2 * x + l
      close x y a v l e h g = omega arith

  -- the result is no infinity
  grid-lt : grid f s n < 2 ^ suc (low f)
  grid-lt = native.Mathlib.Nat.lt_of_mul-lt-mul_left n
      (subst (λ (x : ℕ). n * grid f s n < n * x) (sym (native.Mathlib.Nat.pow-succ' 2 (low f)))
      (subst (λ (x : ℕ). n * grid f s n < x) (mul_left_comm 2 n L) (tidy (n * grid f s n) (s * L) (n * L) L scaled_under (mul-le-mul_right L most) one-n)))
    where
      tidy : (x a b l : ℕ) → 2 * x < 2 * a + l → a ≤ b → l ≤ b → x < 2 * b
      tidy x a b l h g i = omega arith

      one-n : L ≤ n * L
      one-n = le_trans (le_of_eq (sym (one-mul L))) (mul-le-mul_right L N)

  pub finite-value : HasValue (round f false s n) false (grid f s n) L
  finite-value = round_val f s n (lt_of_lt_of_le grid-lt (pow_mono (room (low f) (emax f))))
    where
      room : (l e : ℕ) → suc l ≤ l + suc e
      room l e = omega arith

-- ---- the quotient of two whole numbers is their fraction, rounded once
no_zero : (m u d b : ℕ) → 0 < b → 0 < d → m * u * 1 ≡ b * d → T (not (eqb m 0))
no_zero m u d b B D h = not_T (eqb m 0) (λ t. lt_irrefl 0 (subst (λ (x : ℕ). 0 < x) (sym h ∙ mul-one (m * u) ∙ ap (λ (x : ℕ). x * u) (eqb→eq m 0 t) ∙ zero-mul u) (mul-pos B D)))

cross : (x y de dd a b : ℕ) → x * 1 ≡ a * de → y * 1 ≡ b * dd → x * dd * b ≡ a * (y * de)
cross x y de dd a b p q =
    let middle : a * de * dd * b ≡ a * (b * dd * de) = simp (mul_assoc, mul_comm, mul_left_comm) in
    ap (λ (z : ℕ). z * dd * b) (sym (mul-one x) ∙ p) ∙ middle ∙ ap (λ (z : ℕ). a * (z * de)) (sym q ∙ mul-one y)

pub div-whole : (f : Format) (x y : Float) (a b : ℕ) → HasValue x false a 1 → HasValue y false b 1 → 0 < b → div f x y ≡ round f false a b
unfolding div
div-whole f (fin true m e) y a b v w B = absurd (true≢false v.0)
div-whole f (fin false m e) (fin true n d) a b v w B = absurd (true≢false w.0)
div-whole f nan y a b v w B = elim v [ ]
div-whole f (inf _) y a b v w B = elim v [ ]
div-whole f (fin false m e) nan a b v w B = elim w [ ]
div-whole f (fin false m e) (inf _) a b v w B = elim w [ ]
div-whole f (fin false m e) (fin false n d) a b v w B =
    cond_no (eqb n 0) (cond (eqb m 0) nan (inf false)) (round f false (m * up e * down d) (n * up d * down e)) (no_zero n (up d) (down d) b B (down_pos d) w.1)
    ∙ round_same f false (m * up e * down d) (n * up d * down e) a b (den-pos' n d w.1) B (cross (m * up e) (n * up d) (down e) (down d) a b v.1 w.1)
  where
    den-pos' : (n : ℕ) (d : ℤ) → n * up d * 1 ≡ b * down d → 0 < n * up d * down e
    den-pos' n d q = mul-pos (subst (λ (x : ℕ). 0 < x) (sym (sym (mul-one (n * up d)) ∙ q)) (mul-pos B (down_pos d))) (down_pos e)
