-- A float by the fields of its bits, for either format: its value where it is finite, and which bits are finite or a NaN's. Assumes nothing.
use mathlib.Core.Path.{◌≡◌, refl, sym, ◌∙◌, subst}
use Prim.Native.Nat.{ℕ, zero, suc, ◌+◌, ◌-◌, ◌*◌, ◌/◌, ◌%◌, ◌^◌, ◌≤◌, ◌<◌}
use native.Mathlib.Nat.{lt_irrefl, le_of_lt, div-lt_iff_lt-mul, le-div_iff_mul-le, le_antisymm, le_of_suc-le-suc, mod-lt, mul-pos, zero-lt-suc, mul_comm}
use native.Mathlib.Omega.{arith}
use mathlib.Core.Bool.{Bool, true, false, not, cond}
use lib.Dec.{T, leb, ltb, eqb, eqb→eq, not_T, ltb→lt, nltb→le}
use borrow.Author.Tests.{le-ltb}
use lib.Pow.{pow_pos}
use lib.Ieee.{Float, nan, inf, fin, Format, prec, low, odd, hid, ones, top, of_fields, of_bits, nan_bits}
use lib.Ieee.Fits.{eq→eqb}
use lib.Ieee.Bits.{cond_no, nan_bits_above}
use lib.Ieee.Exact.{HasValue, odd_sign}
use lib.Ieee.Scale.{finite}

-- the digits with the leading one, which a field of 0 lacks
abbrev pub lead : Format → ℕ → ℕ → ℕ
lead f zero t = t
lead f (suc x) t = hid f + t

no_ones : (x o : ℕ) → x < o → T (not (eqb x o))
no_ones x o h = not_T (eqb x o) (λ t. lt_irrefl o (subst (λ (y : ℕ). y < o) (eqb→eq x o t) h))

less_one : (x : ℕ) → x ≡ suc x - 1
less_one x = omega arith

pub fields_value : (f : Format) (s : Bool) (x t : ℕ) → x < ones f → HasValue (of_fields f s x t) s (lead f x t * 2 ^ (x - 1)) (2 ^ low f)
unfolding of_fields
fields_value f s zero t h = odd_sign (prec f) s t 0 (low f)
fields_value f s (suc x) t h =
    subst (λ (v : Float). HasValue v s ((hid f + t) * 2 ^ (suc x - 1)) (2 ^ low f))
    (sym (cond_no (eqb (suc x) (ones f)) (cond (eqb t 0) (inf s) nan) (odd (prec f) s (hid f + t) x (low f)) (no_ones (suc x) (ones f) h)))
    (subst (λ (y : ℕ). HasValue (odd (prec f) s (hid f + t) x (low f)) s ((hid f + t) * 2 ^ y) (2 ^ low f)) (less_one x) (odd_sign (prec f) s (hid f + t) x (low f)))

-- the exponent's field and the value of a pattern
abbrev pub field : Format → ℕ → ℕ
field f b = b % top f / hid f

abbrev pub value : Format → ℕ → ℕ
value f b = lead f (field f b) (b % hid f) * 2 ^ (field f b - 1)

pub field_lt : (f : Format) (b : ℕ) → b % top f < ones f * hid f → field f b < ones f
field_lt f b h = (div-lt_iff_lt-mul (pow_pos (prec f - 1))).1 h

pub bits-value : (f : Format) (b : ℕ) → b % top f < ones f * hid f → HasValue (of_bits f b) (leb (top f) b) (value f b) (2 ^ low f)
unfolding of_bits
bits-value f b h = fields_value f (leb (top f) b) (field f b) (b % hid f) (field_lt f b h)

finite-of-value : (x : Float) (s : Bool) (a c : ℕ) → HasValue x s a c → finite x ≡ true
finite-of-value nan s a c h = absurd h
finite-of-value (inf t) s a c h = absurd h
finite-of-value (fin t m e) s a c h = refl

at_ones : (f : Format) (s : Bool) (x t : ℕ) → x ≡ ones f → finite (of_fields f s x t) ≡ false
unfolding of_fields
at_ones f s zero t e = absurd (none (lib.Ieee.emax f) e)
  where
    none : (y : ℕ) → 0 ≡ 2 * y + 1 → ⊥
    none y h = omega arith
at_ones f s (suc x) t e = go (eqb (suc x) (ones f)) (eqb t 0) (eq→eqb e)
  where
    go : (p q : Bool) → T p → finite (cond p (cond q (inf s) nan) (odd (prec f) s (hid f + t) x (low f))) ≡ false
    go true true h = refl
    go true false h = refl
    go false q h = absurd h

-- the pattern without its sign is below the infinity's: `b % 0x8000_0000 < 0x7f80_0000` at an `f32`
pub finite-bits : (f : Format) (b : ℕ) → finite (of_bits f b) ≡ ltb (b % top f) (ones f * hid f)
finite-bits f b = go (ltb (b % top f) (ones f * hid f)) (ltb→lt (b % top f) (ones f * hid f)) (nltb→le (b % top f) (ones f * hid f))
  where
    top_field : ones f * hid f ≤ b % top f → field f b ≡ ones f
    top_field h = le_antisymm
        (le_of_suc-le-suc ((div-lt_iff_lt-mul (pow_pos (prec f - 1))).1 (subst (λ (y : ℕ). b % top f < y) (mul_comm (hid f) (suc (ones f))) (mod-lt b (mul-pos (pow_pos (prec f - 1)) (zero-lt-suc (ones f)))))))
        ((le-div_iff_mul-le (pow_pos (prec f - 1))).1 h)

    open-bits : finite (of_fields f (leb (top f) b) (field f b) (b % hid f)) ≡ false → finite (of_bits f b) ≡ false
    open-bits h = unfold of_bits in h

    go : (t : Bool) → (T t → b % top f < ones f * hid f) → (T (not t) → ones f * hid f ≤ b % top f) → finite (of_bits f b) ≡ t
    go true h k = finite-of-value (of_bits f b) (leb (top f) b) (value f b) (2 ^ low f) (bits-value f b (h tt))
    go false h k = open-bits (at_ones f (leb (top f) b) (field f b) (b % hid f) (top_field (k tt)))

-- what is finite is no NaN
pub no_nan : (f : Format) (b : ℕ) → finite (of_bits f b) ≡ true → T (not (nan_bits f b))
no_nan f b e = subst (λ (t : Bool). T (not t)) (sym (nan_bits_above f b ∙ le-ltb (ones f * hid f) (b % top f) (le_of_lt below))) tt
  where
    below : b % top f < ones f * hid f
    below = ltb→lt (b % top f) (ones f * hid f) (subst T (sym (sym (finite-bits f b) ∙ e)) tt)
