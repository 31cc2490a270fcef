-- Numbers and names as words; a file that is taken or too long. Assumes nothing.
use Prim.Native.Nat.{ℕ, zero, suc, ◌+◌, ◌-◌, ◌*◌, ◌/◌, ◌%◌, ◌^◌, ◌≤◌, ◌<◌}
use mathlib.Core.Path.{◌≡◌, refl, ap, ap₂, ◌∙◌}
use mathlib.Core.List.{List, [], ◌∷◌, ◌++◌, append-nil}
use borrow.Author.Tests.{lt-ltb, le-ltb, lt-leb, le-leb}
use native.Mathlib.Omega.{arith}
use native.Mathlib.Nat.{pow-zero, pow-suc}
use Rattle.io.specs.Digits.{hex_digit_ascii, last_digits, IsDigitCount}
use lib.ListN.{length, drop_of_length-le}
use lib.Seq.{sets-eq}
use Rattle.algebra.specs.Numbers.{joined}
use Rattle.algebra.specs.Store.{stored}
use Rattle.algebra.proofs.Stores.{stored-in}
use Rattle.listing.specs.Buffer.{Buffer, put_byte, put_all}
use Rattle.listing.specs.Text.{digit, decimal_in, hex, name, refusal, taken}

pub digit_low : (d : ℕ) → d < 10 → digit d ≡ 48 + d
unfolding digit
digit_low d h = rw (lt-ltb _ _ h)

pub digit-high : (d : ℕ) → 10 ≤ d → digit d ≡ 55 + d
unfolding digit
digit-high d h = rw (le-ltb _ _ h)

glyph-digit : (d : ℕ) → d < 10 → hex_digit_ascii d ≡ digit d
glyph-digit d h = rw (lt-ltb _ _ h, digit_low d h)

ten-positive : (k : ℕ) → 0 < 10 ^ k
ten-positive zero = rw pow-zero (omega arith)
ten-positive (suc k) = let p : 10 ^ suc k ≡ 10 ^ k * 10 = pow-suc 10 k in omega (arith, ten-positive k)

two_digits : (n k : ℕ) → 10 ^ (suc (suc k) - 1) ≤ n → 10 ≤ n
two_digits n k h =
    let m : suc (suc k) - 1 ≡ suc k = omega arith in
    let low : 10 ^ suc k ≤ n = rw m at h in
    omega (arith, pow-suc 10 k, ten-positive k)

tenth-lt : (n k : ℕ) → n < 10 ^ suc k → n / 10 < 10 ^ k
tenth-lt n k h = omega (arith, pow-suc 10 k)

tenth-fewest : (n k : ℕ) → IsDigitCount 10 1 n (suc (suc k)) → IsDigitCount 10 1 (n / 10) (suc k)
tenth-fewest n k w =
    let m : suc (suc k) - 1 ≡ suc k = omega arith in
    let low : 10 ^ suc k ≤ n = rw m at (w.2 (omega arith)) in
    let l : suc k - 1 ≡ k = omega arith in
    (omega arith, tenth-lt n (suc k) w.1, λ _. rw l (omega (arith, pow-suc 10 k)))

-- the fewest digits that hold a number are its digits without leading zeros
pub fewest-decimal : (f n k : ℕ) → n < 10 ^ suc f → IsDigitCount 10 1 n k → last_digits 10 k n ≡ decimal_in f n
unfolding decimal_in
fewest-decimal f n zero h w = absurd (omega (arith, w.0))
fewest-decimal zero n (suc zero) h w = ap (λ (d : ℕ). d ∷ []) (glyph-digit (n % 10) (omega arith))
fewest-decimal (suc f) n (suc zero) h w =
    let small : n < 10 = w.1 in
    let e : n % 10 ≡ n = omega arith in
    rw (lt-ltb n 10 small) (ap (λ (d : ℕ). d ∷ []) (glyph-digit (n % 10) (omega arith) ∙ ap digit e))
fewest-decimal zero n (suc (suc k)) h w =
    let small : n < 10 = h in
    absurd (omega (arith, two_digits n k (w.2 (omega arith))))
fewest-decimal (suc f) n (suc (suc k)) h w =
    let long : 10 ≤ n = two_digits n k (w.2 (omega arith)) in
    rw (le-ltb n 10 long) (ap₂ (λ (l : List ℕ) (d : ℕ). l ++ (d ∷ [])) (fewest-decimal f (n / 10) (suc k) (tenth-lt n (suc f) h) (tenth-fewest n k w)) (glyph-digit (n % 10) (omega arith)))

-- a byte's two digits, put one after the other
pub put-hex : (o : Buffer) (b : ℕ) {p q : Buffer} {x y : ℕ} → b < 256 → x ≡ digit (b / 16 % 16) → y ≡ digit (b % 16) → p ≡ put_byte o x → q ≡ put_byte p y → q ≡ put_all o (hex b)
unfolding hex put_all
put-hex o b h d e f g =
    let m : b / 16 % 16 ≡ b / 16 = omega arith in
    g ∙ ap₂ put_byte (f ∙ ap (put_byte o) (d ∙ ap digit m)) e

-- bytes stored in as many
pub stored-whole : (out l : List ℕ) → length l ≡ length out → stored out 0 l ≡ l
stored-whole out l e =
    stored-in out 0 l (omega arith) ∙ sets-eq l out 0 (omega arith) ∙ ap (λ (d : List ℕ). l ++ d) (drop_of_length-le out {i = 0 + length l} (omega arith)) ∙ append-nil l

-- a name, where there is one
pub name-some : (units : List ℕ) → 0 < length units → name units ≡ joined hex units
unfolding name
name-some [] h = absurd (omega arith)
name-some (u ∷ more) h = refl

pub name-none : (units : List ℕ) → length units ≡ 0 → name units ≡ 45 ∷ []
unfolding name
name-none [] h = refl
name-none (u ∷ more) h = absurd (omega arith)

-- a file that is taken, and one that is too long
module _ (most : ℕ) (file listing : List ℕ) where
  pub taken-within : length file ≤ most → listing ≡ taken most file listing
  taken-within h = rw (le-leb _ _ h)

  pub taken-beyond : most < length file → refusal 1 0 ≡ taken most file listing
  taken-beyond h = rw (lt-leb _ _ h)
