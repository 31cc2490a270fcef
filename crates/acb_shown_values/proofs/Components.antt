-- What is promised of shown components, their laws, and the small cases that all agree on. Assumes nothing.
use Prim.Native.Nat.{ℕ, suc, ◌+◌, ◌-◌, ◌*◌, ◌/◌, ◌^◌, ◌<◌}
use mathlib.Core.Path.{◌≡◌, refl, ap}
use mathlib.Core.List.{[], ◌∷◌}
use mathlib.Core.Bool.{Bool, true, false, cond}
use lib.Dec.{ltb}
use lib.IntN.{pos, negsuc, ◌-ℤ◌}
use lib.Signed.{mag}
use mir.Syntax.{w16}
use mir.Val.{SFits, to_z, of_z}
use mir.Facts.{to_z_pos, to_z-of_z}
use borrow.Author.Tests.{ne_eqb, lt-ltb, le-ltb}
use native.Mathlib.Omega.{arith}
use Rattle.acb_shown_values.specs.Nearest.{Nearest}
use Rattle.acb_shown_values.specs.Components.{percent, centred, shown_component}

-- ---- the nearest whole percent, and a byte minus 128

-- two whole numbers are not both the nearest
pub nearest-only : (b p q : ℕ) → Nearest b p → Nearest b q → p ≡ q
nearest-only b p q h k = omega (arith, h.most, h.least, k.most, k.least)

percent-nearest : (b : ℕ) → Nearest b (percent b)
unfolding percent
percent-nearest b = record { most = omega arith; least = omega arith }

-- CMYK counts 0 as full ink
pub ink-nearest : (k b : ℕ) → (p : ℕ) × (shown_component 2 k b ≡ pos p) × Nearest (255 - b) p
unfolding shown_component
ink-nearest k b = (percent (255 - b), refl, percent-nearest (255 - b))

-- the first component of Lab
pub lightness-nearest : (b : ℕ) → (p : ℕ) × (shown_component 7 0 b ≡ pos p) × Nearest b p
unfolding shown_component
lightness-nearest b = (percent b, refl, percent-nearest b)

-- the others: n where the byte is 128 and n, and minus n where the byte and n are 128
pub above-centre : (k n : ℕ) → shown_component 7 (suc k) (128 + n) ≡ pos n
unfolding shown_component
above-centre k n =
    let e : 128 + n - 128 ≡ n = omega arith in
    rw (ne_eqb (suc k) 0 (λ z. omega arith)) (rw (le-ltb (128 + n) 128 (omega arith)) (ap pos e))

pub below-centre : (k b n : ℕ) → b + suc n ≡ 128 → shown_component 7 (suc k) b ≡ negsuc n
unfolding shown_component
below-centre k b n e =
    let f : 128 - suc b ≡ n = omega arith in
    rw (ne_eqb (suc k) 0 (λ z. omega arith)) (rw (lt-ltb b 128 (omega arith)) (ap negsuc f))

-- RGB shows as it is
pub rgb-shown : (k b : ℕ) → shown_component 0 k b ≡ pos b
unfolding shown_component
rgb-shown k b = refl

-- ---- by space and position

module _ (x k b : ℕ) where
  pub shown-ink : x ≡ 2 → shown_component x k b ≡ pos (percent (255 - b))
  unfolding shown_component
  shown-ink e = rw e

  pub shown-lightness : x ≡ 7 → k ≡ 0 → shown_component x k b ≡ pos (percent b)
  unfolding shown_component
  shown-lightness e f = rw (e, f)

  pub shown-about : x ≡ 7 → (k ≡ 0 → ⊥) → shown_component x k b ≡ centred b
  unfolding shown_component
  shown-about e f = rw (e, ne_eqb k 0 f)

  pub shown-plain : (x ≡ 2 → ⊥) → (x ≡ 7 → ⊥) → shown_component x k b ≡ pos b
  unfolding shown_component
  shown-plain f g = rw (ne_eqb x 2 f, ne_eqb x 7 g)

-- ---- the signed numbers of the code, of 16 bits

pub percent-shown : (b : ℕ) → b < 256 → to_z w16 ((200 * b + 255) / 510) ≡ pos (percent b)
unfolding percent
percent-shown b h = to_z_pos w16 (omega arith)

pub byte-shown : (b : ℕ) → b < 256 → to_z w16 b ≡ pos b
byte-shown b h = to_z_pos w16 (omega arith)

centred-fits : (b : ℕ) → b < 256 → SFits w16 (centred b)
centred-fits b h = record { sfits = go (ltb b 128) }
  where
    go : (x : Bool) → mag (cond x (negsuc (128 - suc b)) (pos (b - 128))) < 2 ^ 15
    go true = omega arith
    go false = omega arith

pub difference-fits : (b : ℕ) → b < 256 → SFits w16 (to_z w16 b -ℤ pos 128)
difference-fits b h = rw (byte-shown b h) (centred-fits b h)

pub difference-shown : (b : ℕ) → b < 256 → to_z w16 (of_z w16 (to_z w16 b -ℤ pos 128)) ≡ centred b
difference-shown b h = rw (byte-shown b h) (to_z-of_z (centred-fits b h))

-- ---- P8 and P9

pub lab-shows : shown_component 7 0 0xF8 ∷ shown_component 7 1 0x7B ∷ shown_component 7 2 0x7B ∷ [] ≡ pos 97 ∷ negsuc 4 ∷ negsuc 4 ∷ []
unfolding shown_component percent
lab-shows = refl

pub cmyk-shows : shown_component 2 0 0 ∷ shown_component 2 1 128 ∷ shown_component 2 2 255 ∷ [] ≡ pos 100 ∷ pos 50 ∷ pos 0 ∷ []
unfolding shown_component percent
cmyk-shows = refl
